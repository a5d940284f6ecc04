-- A simulator that goes on from an image of a book.
use Rattle.std.proofs.Common.{◌≡◌, ℕ, ◌<◌, true, List, [], ◌∷◌, ◌++◌, length, Option, Some, None, option_map, is_some, Result, Ok, Err, sym, ap, ◌∙◌, subst, IfOk}
use Rattle.std.specs.Prelude.{IfSome, MatchResult}
use Rattle.vf_base.specs.declared.names.Job.{Job}
use Rattle.vf_base.specs.declared.names.NodeNo.{NodeNo}
use Rattle.vf_frames.specs.declared.holder.Name.{Name}
use Rattle.vf_frames.specs.declared.holder.Holder.{Holder}
use Rattle.vf_frames.specs.Calls.{Opened}
use Rattle.vf_frames.specs.Holders.{Keeps}
use Rattle.vf_pages.specs.Pages.{Pages}
use Rattle.vf_image.specs.Images.{Checkpoint, HasBase, ForkedFrom, base_holders}
use Rattle.vf_book.specs.Book.{image_at, holders, AreOf, HandLent}
use Rattle.vf_book.specs.Forks.{base_in, HasBaseIn, IsSource}
use Rattle.vf_book.proofs.HolderLemmas.{keeps-forked, keeps-forked-over}

module _ (images : List (Option Checkpoint)) (i : Checkpoint) where
  pub base_there : (base : Option NodeNo) → HasBaseIn images i base → IfSome base (λ b. (b.0 < length images) × (is_some (image_at images b.0) ≡ true))
  base_there None has = tt
  base_there (Some b) has = (has.2, ap is_some has.1)

  pub has_base : (base : Option NodeNo) (found : Option Checkpoint) → i.base ≡ base → HasBaseIn images i base → found ≡ base_in images base → HasBase i found
  has_base None found e has is = subst (HasBase i) (sym is) e
  has_base (Some b) found e has is = subst (HasBase i) (sym (is ∙ has.1)) has.3

  pub keeps-source : (a b : Option (List ℕ)) (node : NodeNo) (job : Job) (found : Option Checkpoint) (hand hand' sim : Holder) (base : Option NodeNo) → i.base ≡ base → IsSource images node job i → found ≡ base_in images base
      → Keeps a (i.pages.holder ∷ (base_holders found ++ hand ∷ [])) b (i.pages.holder ∷ (base_holders found ++ hand' ∷ sim ∷ []))
      → Keeps a (hand ∷ holders images) b (hand' ∷ sim ∷ holders images)
  keeps-source a b node job found hand hand' sim None e source is k =
      keeps-forked a b images node.0 i hand hand' sim source.there
      (subst (λ o. Keeps a (i.pages.holder ∷ (base_holders o ++ hand ∷ [])) b (i.pages.holder ∷ (base_holders o ++ hand' ∷ sim ∷ []))) is k)
  keeps-source a b node job found hand hand' sim (Some m) e source is k =
      let has : HasBaseIn images i (Some m) = subst (HasBaseIn images i) e source.base in
      keeps-forked-over a b images node.0 m.0 i has.0 hand hand' sim source.there has.1 (λ same. has.4 (same ∙ ap (λ (n : NodeNo). n.0) (sym source.named)))
      (subst (λ o. Keeps a (i.pages.holder ∷ (base_holders o ++ hand ∷ [])) b (i.pages.holder ∷ (base_holders o ++ hand' ∷ sim ∷ []))) (is ∙ has.1) k)

pub bases_of : {X : Type 0} (images : List (Option Checkpoint)) (pool : Name) (of : X → Checkpoint) (found : Option X) (base : Option NodeNo) → AreOf pool images → option_map of found ≡ base_in images base
    → IfSome found (λ x. (of x).pages.holder.name ≡ pool)
bases_of images pool of None base all is = tt
bases_of images pool of (Some x) None all is = cc
bases_of images pool of (Some x) (Some b) all is = (all b.0 (of x) (sym is)).name

-- the hand has given a part to the simulator
pub lent_opened : (pool : Name) (hand hand' sim : Holder) → hand.name ≡ pool → Opened 1 hand hand' sim → HandLent pool hand hand' sim
lent_opened pool hand hand' sim name o = record {
  frames = o.source_frames;
  misses = o.source_misses;
  parts = o.source_parts;
  name = o.source_name;
  notes = o.source_notes;
  new = record { name = o.name ∙ name; parts = o.parts };
}

pub lent_forked : (pool : Name) (i : Checkpoint) (found : Option Checkpoint) (hand hand' : Holder) (sim : Pages) → i.pages.holder.name ≡ pool → ForkedFrom i found hand hand' sim → HandLent pool hand hand' sim.holder
lent_forked pool i None hand hand' sim name f = record {
  frames = f.source_frames;
  misses = f.source_misses;
  parts = f.source_parts;
  name = f.source_name;
  notes = f.source_notes;
  new = record { name = f.name ∙ name; parts = f.parts };
}
lent_forked pool i (Some base) hand hand' sim name f = record {
  frames = f.source_frames;
  misses = f.source_misses;
  parts = f.source_parts;
  name = f.source_name;
  notes = f.source_notes;
  new = record { name = f.name ∙ name; parts = f.parts };
}

-- ---- what a result says, carried over

pub ok_weaker : {X E : Type 0} {P Q : X → Type 0} (r : Result X E) → ((x : X) → P x → Q x) → IfOk r P → IfOk r Q
ok_weaker (Ok x) f p = f x p
ok_weaker (Err e) f p = tt

pub ok_both : {X E : Type 0} {P Q R : X → Type 0} (r : Result X E) → ((x : X) → P x → Q x → R x) → IfOk r P → IfOk r Q → IfOk r R
ok_both (Ok x) f p q = f x p q
ok_both (Err e) f p q = tt

pub either_weaker : {X E : Type 0} {P P' : X → Type 0} {Q Q' : E → Type 0} (r : Result X E) → ((x : X) → P x → P' x) → ((e : E) → Q e → Q' e) → MatchResult r P Q → MatchResult r P' Q'
either_weaker (Ok x) f g h = f x h
either_weaker (Err e) f g h = g e h

pub ok_for_all : {X E A : Type 0} {R : A → Type 0} (Q : A → X → Type 0) (r : Result X E) → ((a : A) → R a → IfOk r (Q a)) → IfOk r (λ x. (a : A) → R a → Q a x)
ok_for_all Q (Ok x) f = f
ok_for_all Q (Err e) f = tt
