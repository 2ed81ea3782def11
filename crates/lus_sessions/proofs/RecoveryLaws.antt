-- Where a run goes on, by what was read of the journal.
use Rattle.std.proofs.Common.{◌≡◌, ◌∙◌, ℕ, refl, ap, sym, subst, List, [], take, Option}
use Rattle.lus_values.specs.Names.{Names, Text}
use Rattle.lus_requests.specs.declared.request.Entry.{Entry}
use Rattle.lus_devices.specs.Devices.{Bytes, with_front}
use Rattle.lus_lines.specs.Lines.{IsLast}
use Rattle.lus_replay.specs.Replays.{EndsSo, HasReplayed, Replays}
use Rattle.lus_replay.specs.declared.replaying.Replayed.{Replayed}
use Rattle.lus_sessions.specs.Recoveries.{BeginsHead, HasRecovered, IsRead, StartsAt, head_of}
use Rattle.lus_sessions.specs.declared.recovering.Start.{Start}
use Rattle.lus_sessions.specs.declared.recovering.Start.TheVariants as starts

-- bytes alone begin the first line
pub head_recovered : (start : Start) (names : Names) (name first bytes : Text) (left end : Option Bytes) (h : List Entry) → first ≡ head_of name
    → IsLast bytes left end → BeginsHead start first bytes → HasRecovered start names name left h h
head_recovered (starts.Head n) names name first bytes left end h is last begins =
    (end, subst (λ t. IsLast t left end) (begins ∙ ap (take n) is) last, refl)
head_recovered (starts.Line k) names name first bytes left end h is last begins = absurd begins
head_recovered (starts.Cut k n) names name first bytes left end h is last begins = absurd begins

module _ (names : Names) (name : Text) (r : Replayed) (left behind later : Option Bytes) (h h' : List Entry) (line right : Text)
    (first : left ≡ with_front (head_of name) behind) (replayed : HasReplayed names r behind later h h' line right) where
  -- items were read up to the end
  read_to : (k : ℕ) (tail : Bytes) → k ≡ r.entries → IsLast tail replayed.mid later → h' ≡ replayed.past → IsRead names k tail behind h h'
  read_to k tail counted last same = record {
    items = replayed.items;
    mid = replayed.mid;
    end = later;
    replays = subst (λ es. Replays names behind replayed.mid h es replayed.items) (sym same) replayed.replays;
    entries = counted ∙ replayed.entries;
    last = last;
  }

  pub recovered_behind : (start : Start) → StartsAt start r → HasRecovered start names name left h h'
  recovered_behind (starts.Head n) at = absurd at
  recovered_behind (starts.Line k) at =
      let ends = subst (λ e. EndsSo e names r.entries replayed.mid later replayed.past h' line right) at.1 replayed.ends in
      record { behind = behind; first = first; rest = read_to k [] at.0 ends.0 ends.1 }
  recovered_behind (starts.Cut k n) at =
      let ends = subst (λ e. EndsSo e names r.entries replayed.mid later replayed.past h' line right) at.1 replayed.ends in
      (line, ends.1, record { behind = behind; first = first; rest = read_to k line at.0 ends.0 ends.2 })
