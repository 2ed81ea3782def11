-- Types hold in worlds and in streams.
use Rattle.lus_typed_streams.proofs.Worlds.{values_have_types}
use Rattle.lus_typed_streams.proofs.StreamsTyped.{streams_have_types, streams_have_declared_types}
use Rattle.lus_typed_streams.proofs.values_are_typed.Goals as goal

pub returns : goal.returns
returns c = record { worlds = values_have_types; streams = streams_have_types; declared = streams_have_declared_types }
