use Rattle.lus_words.proofs.Alike.{same_as_words}
use Rattle.lus_words.proofs.Sizes.{layouts_are_unique, sizes_are_leaves, words_are_all_the_size}
use Rattle.lus_words.proofs.Slices.{fields_are_slices, structures_are_joined}
use Rattle.lus_words.proofs.Existing.{types_have_layouts}
use Rattle.lus_words.proofs.Shallow.{layouts_are_shallow}
use Rattle.lus_words.proofs.Typed.{decodes_encoded, entries_fit, words_have_types}
use Rattle.lus_words.proofs.laws.values_are_words.Goals as goal

pub returns : goal.returns
returns c = record {
  unique = layouts_are_unique;
  leaves = sizes_are_leaves;
  long = words_are_all_the_size;
  typed = words_have_types;
  read = decodes_encoded;
  fields = fields_are_slices;
  alike = same_as_words;
  structures = structures_are_joined;
  fit = entries_fit;
  some = types_have_layouts;
  shallow = layouts_are_shallow;
}
