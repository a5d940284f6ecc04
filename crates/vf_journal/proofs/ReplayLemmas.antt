-- A journal's records are its replay, and its turns are those of its attempts.
use Rattle.std.proofs.Common.{◌≡◌, ℕ, ◌+◌, Bool, true, false, if◌then◌else◌, List, [], ◌∷◌, ◌++◌, map, Option, Some, None, refl, sym, ◌∙◌, ap, arith}
use Rattle.vf_base.specs.declared.names.Job.{Job}
use Rattle.vf_base.specs.declared.names.NodeNo.{NodeNo}
use Rattle.vf_jobs.specs.Jobs.{node_no}
use Rattle.vf_journal.specs.declared.entry.Entry.{Entry}
use Rattle.vf_journal.specs.declared.entry.Entry.TheVariants.{Copy, Retire}
use Rattle.vf_journal.specs.Farm.{Farm}
use Rattle.vf_journal.specs.Records.{Records, at_first}
use Rattle.vf_journal.specs.Effects.{Seen, Spread, spread_of, by_itself, with_its_copies, copies, retirings, ends_job, after, consequences}
use Rattle.vf_journal.specs.Journal.{IsJournal, Choice, begun, next, of_solo, replay, turns_from, closed_turns, closing_of}
use Rattle.vf_journal.specs.Laws.{IsReplayed, TurnsAddUp}

replay-append : {S : Type 0} (f : Farm S) (seen : Seen) (r : Records) (a b : List Entry) → replay f seen r (a ++ b) ≡ replay f seen (replay f seen r a) b
unfolding replay
replay-append f seen r [] b = refl
replay-append f seen r (e ∷ more) b = replay-append f seen (after f seen r e) more b

-- entries that change nothing and close no attempt
record IsStill {S : Type 0} (f : Farm S) (es : List Entry) : Type 0 where
  records : (r : Records) → replay f (of_solo f) r es ≡ r
  turns : (r : Records) → turns_from f r es ≡ 0

still_nil : {S : Type 0} (f : Farm S) → IsStill f []
unfolding replay turns_from
still_nil f = record { records = λ r. refl; turns = λ r. refl }

turns-append : {S : Type 0} (f : Farm S) (r : Records) (a b : List Entry) → turns_from f r (a ++ b) ≡ turns_from f r a + turns_from f (replay f (of_solo f) r a) b
unfolding replay turns_from
turns-append f r [] b = omega arith
turns-append f r (e ∷ more) b =
    let rest = turns-append f (after f (of_solo f) r e) more b in
    omega (arith, rest)

still-append : {S : Type 0} (f : Farm S) (a b : List Entry) → IsStill f a → IsStill f b → IsStill f (a ++ b)
still-append f a b sa sb = record {
  records = λ r. replay-append f (of_solo f) r a b ∙ ap (λ x. replay f (of_solo f) x b) (sa.records r) ∙ sb.records r;
  turns = λ r.
      let sum = turns-append f r a b in
      let first = sa.turns r in
      let rest = sb.turns (replay f (of_solo f) r a) in
      omega (arith, sum, first, rest);
}

still_copies : {S : Type 0} (f : Farm S) (node : NodeNo) (xs : List Job) → IsStill f (map (λ job. Copy job node) xs)
unfolding replay turns_from
still_copies f node [] = record { records = λ r. refl; turns = λ r. refl }
still_copies f node (job ∷ more) = record {
  records = λ r. (still_copies f node more).records r;
  turns = λ r. let rest = (still_copies f node more).turns r in omega (arith, rest);
}

still_retirings : {S : Type 0} (f : Farm S) (ns : List ℕ) → IsStill f (map (λ n. Retire (node_no n)) ns)
unfolding replay turns_from
still_retirings f [] = record { records = λ r. refl; turns = λ r. refl }
still_retirings f (n ∷ more) = record {
  records = λ r. (still_retirings f more).records r;
  turns = λ r. let rest = (still_retirings f more).turns r in omega (arith, rest);
}

copies_by : {S : Type 0} (f : Farm S) (s : Option Spread) (r : Records) → IsStill f (copies f s r)
copies_by f None r = still_nil f
copies_by f (Some s) r = still_copies f s.node _

retirings_by : {S : Type 0} (f : Farm S) (b : Bool) (r : Records) → IsStill f (if b then retirings f r else [])
retirings_by f false r = still_nil f
retirings_by f true r = still_retirings f _

still_consequences : {S : Type 0} (f : Farm S) (seen : Seen) (r : Records) (e : Entry) → IsStill f (consequences f seen r e)
still_consequences f seen r e =
    still-append f (copies f (spread_of f seen e) (by_itself f seen r e)) (if ends_job e then retirings f (with_its_copies f seen r e) else [])
    (copies_by f (spread_of f seen e) (by_itself f seen r e)) (retirings_by f (ends_job e) (with_its_copies f seen r e))

replay-cons : {S : Type 0} (f : Farm S) (seen : Seen) (r : Records) (e : Entry) (es : List Entry) → replay f seen r (e ∷ es) ≡ replay f seen (after f seen r e) es
unfolding replay
replay-cons f seen r e es = refl

turns-cons : {S : Type 0} (f : Farm S) (r : Records) (e : Entry) (es : List Entry) → turns_from f r (e ∷ es) ≡ closed_turns r (closing_of e) + turns_from f (after f (of_solo f) r e) es
unfolding turns_from
turns-cons f r e es = refl

replayed : {S : Type 0} (f : Farm S) {choice : Choice} {js : List Entry} {r : Records} → IsJournal f choice js r → r ≡ replay f (of_solo f) at_first js
replayed f begun = sym ((still_nil f).records at_first)
replayed f (next {js} {r} e before guard chosen solo) =
    let s = of_solo f in
    let es = consequences f s r e in
    sym (replay-append f s at_first js (e ∷ es)
    ∙ ap (λ x. replay f s x (e ∷ es)) (sym (replayed f before))
    ∙ replay-cons f s r e es
    ∙ (still_consequences f s r e).records (after f s r e))

pub is_replayed : {S : Type 0} (f : Farm S) → IsReplayed f
is_replayed f choice js r journal = replayed f journal

pub turns_add_up_lem : {S : Type 0} (f : Farm S) → TurnsAddUp f
turns_add_up_lem f choice js r e journal =
    let s = of_solo f in
    let es = consequences f s r e in
    let sum = turns-append f at_first js (e ∷ es) in
    let here = ap (λ x. turns_from f x (e ∷ es)) (sym (replayed f journal)) in
    let first = turns-cons f r e es in
    let none = (still_consequences f s r e).turns (after f s r e) in
    omega (arith, sum, here, first, none)
