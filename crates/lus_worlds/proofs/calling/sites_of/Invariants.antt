-- The places so far and those of the parts that are left are all.
use Rattle.std.proofs.Common.{◌≡◌, ◌++◌, drop}
use Rattle.lus_worlds.specs.Finding.{call_places}
use Rattle.lus_worlds.proofs.calling.sites_of.Given as goal

abbrev pub invariant-loop-place : goal.invariant-loop-place
invariant-loop-place l = l.sites.items ++ call_places (drop l.place l.parts) l.place ≡ call_places l.parts 0
