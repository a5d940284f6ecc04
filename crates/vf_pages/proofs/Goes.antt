-- One page's writes, in the terms of the code.
use Rattle.std.proofs.Common.{◌≡◌, ◌≢◌, ℕ, ◌<◌, ◌≤◌, true, false, cond, List, [], ◌∷◌, length, refl, sym, ap, ◌∙◌, arith, subst, IsTrue, inl, inr, ◌↔◌}
use Rattle.std.specs.Prelude.{Option, Some, None, Result, Ok, Err, OnErr, IfErr}
use Rattle.vf_base.specs.declared.write.Write.{Write}
use Rattle.vf_frames.specs.declared.holder.Holder.{Holder}
use Rattle.vf_frames.specs.Numbers.{has}
use Rattle.vf_frames.specs.Holders.{count, Accounts, Keeps}
use Rattle.vf_frames.specs.Calls.{Looked, NotesLook}
use Rattle.vf_pages.specs.declared.gather.Lack.{Lack}
use Rattle.vf_pages.specs.declared.gather.Lack.TheVariants.{Frame, Memory}
use Rattle.vf_pages.specs.Pages.{Page, entry, zero_page, old_words, Owns, page_limit}
use Rattle.vf_pages.specs.Writes.{after, AllOn}
use Rattle.vf_pages.specs.Gathered.{GatherNotes, Added, NoFrame, OnLack, Unmade, Goes, Ends}
use Rattle.vf_frames.proofs.CallerLemmas.{keeps-then, rest-then, notes-then}
use Rattle.vf_pages.proofs.Frames.{occurs-entry, has-from, one_if-has}
use Rattle.vf_pages.proofs.Steps.{step-alone, step-look, step-add, step-short, step-unmade}

-- a clause on an error from two
pub err-both : {T E : Type 0} (r : Result T E) (P : Type 0) (Q R : E → Type 0) → OnErr r P → IfErr r Q → ((e : E) → P → Q e → R e) → IfErr r R
err-both (Ok x) P Q R p q f = tt
err-both (Err e) P Q R p q f = f e p q

pub err-weaker : {T E : Type 0} (r : Result T E) (Q R : E → Type 0) → IfErr r Q → ((e : E) → Q e → R e) → IfErr r R
err-weaker (Ok x) Q R q f = tt
err-weaker (Err e) Q R q f = f e q

-- a held page's frame is in the list
pub owned-has : (pages fresh : List Page) (frames : List ℕ) (p : ℕ) (o : Page) → Owns pages fresh frames → entry p pages ≡ Some o → has o.frame frames ≡ true
owned-has pages fresh frames p o owns found = has-from o.frame (has o.frame frames) (omega (arith, owns o.frame, occurs-entry p pages o found))

shared-from : (f : ℕ) (a : Option (List ℕ)) (now : Holder) → has f now.frames ≡ true → ((others : List Holder) → Accounts a (now ∷ others) → IsTrue false ↔ (count f (now ∷ others) ≡ 1)) → (others : List Holder) → Accounts a (now ∷ others) → 1 ≤ count f others
shared-from f a now there alone others c =
    let own = one_if-has f now there in
    let not_one : count f (now ∷ others) ≢ 1 = λ e. false_true ((alone others c).1 e) in
    omega arith
  where
    false_true : false ≡ true → ⊥
    false_true h = cc

module _ (zero : List ℕ) (pages : List Page) (p : ℕ) (a : Option (List ℕ)) (now : Holder) (fresh : List Page) where
  pub goes-alone : (own : List Write) (o : Page) (a' : Option (List ℕ)) (now' : Holder) → 0 < length own → AllOn p own → entry p pages ≡ Some o
      → Looked o.frame true now now' → Keeps a (now ∷ []) a' (now' ∷ []) → ((others : List Holder) → Accounts a (now ∷ others) → IsTrue true ↔ (count o.frame (now ∷ others) ≡ 1)) → has o.frame now.frames ≡ true
      → Goes zero pages p own a now fresh a' now' fresh
  goes-alone [] o a' now' some on held look keeps alone there = absurd (omega arith)
  goes-alone (w ∷ ws) o a' now' some on held look keeps alone there = λ done a0 before first g.
      step-alone zero pages done a0 before a now fresh p w ws o a' now' on first held look keeps (λ others c. (alone others c).0 refl) there g

  pub goes-new : (own : List Write) (words : List ℕ) (a' : Option (List ℕ)) (now' : Holder) (fresh' : List Page) → 0 < length own → AllOn p own → p < page_limit → entry p pages ≡ None
      → words ≡ after own p (zero_page zero p) → Added p words a now now' fresh fresh' → Keeps a (now ∷ []) a' (now' ∷ [])
      → Goes zero pages p own a now fresh a' now' fresh'
  goes-new [] words a' now' fresh' some on below none are added keeps = absurd (omega arith)
  goes-new (w ∷ ws) words a' now' fresh' some on below none are added keeps = λ done a0 before first g.
      step-add zero pages done a0 before a now fresh p w ws words a' now' fresh' on first below (inl none) (are ∙ ap (λ o. after (w ∷ ws) p (old_words zero p o)) (sym none)) added keeps g

  pub ends-alone : (own : List Write) (f : ℕ) (a' : Option (List ℕ)) (now' : Holder) (lack : Lack) → Looked f true now now' → Keeps a (now ∷ []) a' (now' ∷ []) → lack ≡ Memory
      → Ends zero pages p own a now fresh a' now' fresh lack
  ends-alone own f a' now' Frame look keeps is = absurd (cc)
  ends-alone own f a' now' Memory look keeps is = λ done a0 before first g. record {
    owns = λ n. g.owns n ∙ ap (λ fs. cond {A = ℕ} (has n fs) 1 0) (sym look.frames);
    rest = rest-then before now now' g.rest look.rest;
    accounts = keeps-then a0 a a' before now now' g.accounts keeps;
    notes = notes-then (GatherNotes pages done fresh) (NotesLook f true) (λ _. Unit {0}) before.notes now.notes now'.notes g.notes look.notes (λ xs ys x y. tt);
  }

  unmade-then : (a0 : Option (List ℕ)) (before : Holder) (a' : Option (List ℕ)) (now' : Holder) (fresh' : List Page) → Unmade pages a0 before a now fresh' → Keeps a (now ∷ []) a' (now' ∷ []) → now' ≡ now → Unmade pages a0 before a' now' fresh'
  unmade-then a0 before a' now' fresh' u keeps same =
      subst (λ h. Unmade pages a0 before a' h fresh') (sym same) (record {
        owns = u.owns;
        rest = u.rest;
        accounts = keeps-then a0 a a' before now now u.accounts (subst (λ h. Keeps a (now ∷ []) a' (h ∷ [])) same keeps);
        notes = u.notes;
      })

  pub ends-new : (own : List Write) (a' : Option (List ℕ)) (now' : Holder) (fresh' : List Page) (lack : Lack) → 0 < length own → AllOn p own → entry p pages ≡ None
      → fresh' ≡ fresh → OnLack lack (NoFrame a now now') (now' ≡ now) → Keeps a (now ∷ []) a' (now' ∷ [])
      → Ends zero pages p own a now fresh a' now' fresh' lack
  ends-new [] a' now' fresh' lack some on none same why keeps = absurd (omega arith)
  ends-new (w ∷ ws) a' now' fresh' Frame some on none same why keeps = λ done a0 before first g.
      step-short zero pages done a0 before a now fresh p w ws a' now' fresh' on first (inl none) same why keeps g
  ends-new (w ∷ ws) a' now' fresh' Memory some on none same why keeps = λ done a0 before first g.
      unmade-then a0 before a' now' fresh' (step-unmade zero pages done a0 before a now fresh fresh' same g) keeps why

  pub goes-shared : (own : List Write) (o : Page) (words : List ℕ) (a1 : Option (List ℕ)) (now1 : Holder) (a' : Option (List ℕ)) (now' : Holder) (fresh' : List Page)
      → 0 < length own → AllOn p own → p < page_limit → entry p pages ≡ Some o
      → Looked o.frame false now now1 → Keeps a (now ∷ []) a1 (now1 ∷ []) → ((others : List Holder) → Accounts a (now ∷ others) → IsTrue false ↔ (count o.frame (now ∷ others) ≡ 1)) → has o.frame now.frames ≡ true
      → words ≡ after own p o.words → Added p words a1 now1 now' fresh fresh' → Keeps a1 (now1 ∷ []) a' (now' ∷ [])
      → Goes zero pages p own a now fresh a' now' fresh'
  goes-shared [] o words a1 now1 a' now' fresh' some on below held look keeps1 alone there are added keeps = absurd (omega arith)
  goes-shared (w ∷ ws) o words a1 now1 a' now' fresh' some on below held look keeps1 alone there are added keeps = λ done a0 before first g.
      step-add zero pages done a0 before a1 now1 fresh p w ws words a' now' fresh' on first below
      (inr (o, held, λ others c. shared-from o.frame a now there alone others (g.accounts others c)))
      (are ∙ ap (λ e. after (w ∷ ws) p (old_words zero p e)) (sym held)) added keeps
      (step-look zero pages done a0 before a now fresh o.frame a1 now1 look keeps1 g)

  pub ends-shared : (own : List Write) (o : Page) (a1 : Option (List ℕ)) (now1 : Holder) (a' : Option (List ℕ)) (now' : Holder) (fresh' : List Page) (lack : Lack)
      → 0 < length own → AllOn p own → entry p pages ≡ Some o
      → Looked o.frame false now now1 → Keeps a (now ∷ []) a1 (now1 ∷ []) → ((others : List Holder) → Accounts a (now ∷ others) → IsTrue false ↔ (count o.frame (now ∷ others) ≡ 1)) → has o.frame now.frames ≡ true
      → fresh' ≡ fresh → OnLack lack (NoFrame a1 now1 now') (now' ≡ now1) → Keeps a1 (now1 ∷ []) a' (now' ∷ [])
      → Ends zero pages p own a now fresh a' now' fresh' lack
  ends-shared [] o a1 now1 a' now' fresh' lack some on held look keeps1 alone there same why keeps = absurd (omega arith)
  ends-shared (w ∷ ws) o a1 now1 a' now' fresh' Frame some on held look keeps1 alone there same why keeps = λ done a0 before first g.
      step-short zero pages done a0 before a1 now1 fresh p w ws a' now' fresh' on first
      (inr (o, held, λ others c. shared-from o.frame a now there alone others (g.accounts others c))) same why keeps
      (step-look zero pages done a0 before a now fresh o.frame a1 now1 look keeps1 g)
  ends-shared (w ∷ ws) o a1 now1 a' now' fresh' Memory some on held look keeps1 alone there same why keeps = λ done a0 before first g.
      let looked = step-look zero pages done a0 before a now fresh o.frame a1 now1 look keeps1 g in
      let u = step-unmade zero pages done a0 before a1 now1 fresh fresh' same looked in
      subst (λ h. Unmade pages a0 before a' h fresh') (sym why) (record {
        owns = u.owns;
        rest = u.rest;
        accounts = keeps-then a0 a1 a' before now1 now1 u.accounts (subst (λ h. Keeps a1 (now1 ∷ []) a' (h ∷ [])) why keeps);
        notes = u.notes;
      })
