-- A lawful journal is what its records are replayed from, and it stays lawful with one entry more.
use Rattle.std.proofs.Common.{◌≡◌, Bool, true, false, List, [], ◌∷◌, ◌++◌, if◌then◌else◌, length, map, Option, Some, None, refl, sym, ◌∙◌, ap, subst}
use Rattle.std.specs.List.{filter}
use Rattle.vf_base.specs.declared.names.Job.{Job}
use Rattle.vf_base.specs.declared.names.NodeNo.{NodeNo}
use Rattle.vf_jobs.specs.Jobs.{jobs, node_no}
use Rattle.vf_journal.specs.declared.entry.Entry.{Entry}
use Rattle.vf_journal.specs.declared.entry.Entry.TheVariants.{Copy, Retire}
use Rattle.vf_journal.specs.Farm.{Farm}
use Rattle.vf_journal.specs.Records.{Records, at_first}
use Rattle.vf_journal.specs.Effects.{Spread, after, consequences, copies, retirings, is_copied, is_retired, down_from, ends_job, spread_of, by_itself, with_its_copies}
use Rattle.vf_journal.specs.Journal.{IsJournal, Choice, ordered, begun, next, of_solo, replay}
use Rattle.vf_records.specs.Account.{Account, farm_of, solo_of, records_in, IsLawful}

module _ {S : Type 0} (f : Farm S) where
  replay-append : (r : Records) (xs ys : List Entry) → replay f (of_solo f) r (xs ++ ys) ≡ replay f (of_solo f) (replay f (of_solo f) r xs) ys
  unfolding replay
  replay-append r [] ys = refl
  replay-append r (x ∷ xs) ys = replay-append (after f (of_solo f) r x) xs ys

  -- Copy and Retire entries change nothing more
  replay-copies : (r : Records) (node : NodeNo) (js : List Job) → replay f (of_solo f) r (map (λ job. Copy job node) js) ≡ r
  unfolding replay
  replay-copies r node [] = refl
  replay-copies r node (j ∷ js) = replay-copies r node js

  replay-retirings : {A : Type 0} (name : A → NodeNo) (r : Records) (ns : List A) → replay f (of_solo f) r (map (λ n. Retire (name n)) ns) ≡ r
  unfolding replay
  replay-retirings name r [] = refl
  replay-retirings name r (n ∷ ns) = replay-retirings name r ns

  replay-of_copies : (r before : Records) (s : Option Spread) → replay f (of_solo f) r (copies f s before) ≡ r
  unfolding replay
  replay-of_copies r before None = refl
  replay-of_copies r before (Some s) = replay-copies r s.node (filter (is_copied f before s) (jobs f.nodes))

  replay-of_end : (r before : Records) (ends : Bool) → replay f (of_solo f) r (if ends then retirings f before else []) ≡ r
  unfolding replay
  replay-of_end r before true = replay-retirings node_no r (filter (λ n. is_retired f before (node_no n)) (down_from (length f.nodes)))
  replay-of_end r before false = refl

  replay-one : (r : Records) (e : Entry) (more : List Entry) → replay f (of_solo f) r (e ∷ more) ≡ replay f (of_solo f) (after f (of_solo f) r e) more
  unfolding replay
  replay-one r e more = refl

  replay-whole : (r : Records) (e : Entry) → replay f (of_solo f) r (e ∷ consequences f (of_solo f) r e) ≡ after f (of_solo f) r e
  replay-whole r e =
      let here = after f (of_solo f) r e in
      let first = copies f (spread_of f (of_solo f) e) (by_itself f (of_solo f) r e) in
      let last = if ends_job e then retirings f (with_its_copies f (of_solo f) r e) else [] in
      replay-one r e (first ++ last) ∙ replay-append here first last
      ∙ ap (λ x. replay f (of_solo f) x last) (replay-of_copies here (by_itself f (of_solo f) r e) (spread_of f (of_solo f) e))
      ∙ replay-of_end here (with_its_copies f (of_solo f) r e) (ends_job e)

  nothing : replay f (of_solo f) at_first [] ≡ at_first
  unfolding replay
  nothing = refl

  pub replayed : (choice : Choice) (js : List Entry) (r : Records) → IsJournal f choice js r → replay f (of_solo f) at_first js ≡ r
  replayed choice [] r begun = nothing
  replayed choice js r (next {js = before} {r = old} e lawful guard chosen solo) =
      replay-append at_first before (e ∷ consequences f (of_solo f) old e)
      ∙ ap (λ x. replay f (of_solo f) x (e ∷ consequences f (of_solo f) old e)) (replayed choice before old lawful)
      ∙ replay-whole old e

-- an entry more
module _ (a : Account) (r : Records) (lawful : IsJournal (farm_of a.setup) ordered a.journal r) where
  pub come_to : records_in a ≡ r
  come_to = replayed (farm_of a.setup) ordered a.journal r lawful

  pub journal_next : (e : Entry) → IsLawful a e → (js : List Entry) (new : Records)
      → js ≡ a.journal ++ e ∷ consequences (farm_of a.setup) (solo_of a.setup) r e → new ≡ after (farm_of a.setup) (solo_of a.setup) r e
      → IsJournal (farm_of a.setup) ordered js new
  journal_next e may js new written come =
      subst (λ (js : List Entry). IsJournal (farm_of a.setup) ordered js new) (sym written)
      (subst (IsJournal (farm_of a.setup) ordered (a.journal ++ e ∷ consequences (farm_of a.setup) (solo_of a.setup) r e)) (sym come) law)
    where
      law : IsJournal (farm_of a.setup) ordered (a.journal ++ e ∷ consequences (farm_of a.setup) (solo_of a.setup) r e) (after (farm_of a.setup) (solo_of a.setup) r e)
      law =
          let held = subst (IsJournal (farm_of a.setup) ordered a.journal) (sym come_to) lawful in
          subst (λ (x : Records). IsJournal (farm_of a.setup) ordered (a.journal ++ e ∷ consequences (farm_of a.setup) (solo_of a.setup) x e) (after (farm_of a.setup) (solo_of a.setup) x e))
          come_to (next e held may.guard may.chosen may.solo)
