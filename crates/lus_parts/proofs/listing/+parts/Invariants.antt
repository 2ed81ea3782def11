-- What was appended and what the rest appends are what they all append.
use Rattle.std.proofs.Common.{◌≡◌, ◌+◌, ◌≤◌, ◌++◌, drop, length, map}
use Rattle.lus_program.specs.Programs.{all_calls, all_numbered}
use Rattle.lus_program.specs.View.{operands_of, program_seen}
use Rattle.lus_streams.specs.Clocks.{all_parts}
use Rattle.lus_parts.specs.Parts.{operand_clock, part_of}
use Rattle.lus_parts.proofs.listing.+parts.Given as goal

abbrev pub invariant-push_operands-loop-index : goal.invariant-push_operands-loop-index
invariant-push_operands-loop-index l =
    let p = program_seen l.program in
    let es = operands_of l.operands in
    let rest = operands_of (drop l.index l.operands) in
    let ks = operand_clock p l.under es l.clock in
    record {
      next : l.next + all_calls rest ≡ l.number + all_calls es;
      room : l.next ≤ length l.found.items;
      found : map part_of l.found.items ++ all_parts p (all_numbered l.next rest) ks l.index ≡ map part_of l.initial.found.items ++ all_parts p (all_numbered l.number es) ks 0;
    }
