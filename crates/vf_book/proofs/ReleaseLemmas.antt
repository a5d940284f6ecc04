-- Images that were retired are given back, entry after entry.
use Rattle.std.proofs.Common.{◌≡◌, ℕ, zero, suc, ◌+◌, ◌<◌, ◌≤◌, List, [], ◌∷◌, length, drop, slice_get, Option, Some, None, refl, sym, ap, ◌∙◌, arith, subst}
use Rattle.std.proofs.Math.ListN.{drop_of_length-le}
use Rattle.vf_frames.specs.declared.holder.Name.{Name}
use Rattle.vf_frames.specs.declared.holder.Holder.{Holder}
use Rattle.vf_frames.specs.Holders.{Keeps, SamePool}
use Rattle.vf_frames.proofs.CallerLemmas.{pool-then}
use Rattle.vf_base.specs.declared.names.NodeNo.{NodeNo}
use Rattle.vf_journal.specs.declared.entry.Entry.{Entry}
use Rattle.vf_records.specs.Account.{Account}
use Rattle.vf_image.specs.Images.{Checkpoint}
use Rattle.vf_book.specs.Book.{holders, retired_by, without, AreOf, Lags, HandKept}
use Rattle.vf_book.proofs.HolderLemmas.{keeps-on, keeps-same, pool-same, hand-same, hand-then, are_of-given, are_of-renamed}
use Rattle.vf_book.proofs.ImageLemmas.{lags_step}

-- as far as the entries have come
pub record Released (a : Account) (first now : List (Option Checkpoint)) (to_come : List Entry) (old new : Name) (before after : Option (List ℕ)) (h h' : Holder) : Type 0 where
  pub lags : Lags a now to_come
  pub images : AreOf new now
  pub hand : HandKept h h'
  pub kept : Keeps before (h ∷ holders first) after (h' ∷ holders now)
  pub pool : SamePool old before new after

pub released_first : (a : Account) (images : List (Option Checkpoint)) (to_come : List Entry) (pool : Name) (numbers : Option (List ℕ)) (h : Holder) → Lags a images to_come → AreOf pool images
    → Released a images images to_come pool pool numbers numbers h h
released_first a images to_come pool numbers h lags all = record {
  lags = lags;
  images = all;
  hand = hand-same h;
  kept = keeps-same numbers (h ∷ holders images);
  pool = pool-same pool numbers;
}

-- the entries from a place on
pub drop_next : (es : List Entry) (at : ℕ) (e : Entry) → slice_get es at ≡ Some e → drop at es ≡ e ∷ drop (at + 1) es
drop_next [] at e is = cc
drop_next (x ∷ es) zero e is = ap (λ y. y ∷ es) (let same : x ≡ e = cc in same)
drop_next (x ∷ es) (suc at) e is = drop_next es at e is ∙ ap (λ n. e ∷ drop n (x ∷ es)) (let same : suc (at + 1) ≡ suc at + 1 = omega arith in same)

pub entry_there : (es : List Entry) (at : ℕ) → at < length es → (e : Entry) × (slice_get es at ≡ Some e)
entry_there [] at within = absurd (omega (arith, within))
entry_there (x ∷ es) zero within = (x, refl)
entry_there (x ∷ es) (suc at) within = entry_there es at (omega (arith, within))

pub drop_all : (es : List Entry) (at : ℕ) → length es ≤ at → drop at es ≡ []
drop_all es at past = drop_of_length-le es past

are_of-step : (pool : Name) (images : List (Option Checkpoint)) (o : Option NodeNo) → AreOf pool images → AreOf pool (without o images)
are_of-step pool images None all = all
are_of-step pool images (Some node) all = are_of-given pool images node.0 all

-- the image that the next entry retires was given back
pub released_step : (a : Account) (first now : List (Option Checkpoint)) (e : Entry) (more : List Entry) (old new : Name) (before after : Option (List ℕ)) (h h' : Holder)
    → Released a first now (e ∷ more) old new before after h h' → (later : List (Option Checkpoint)) (last : Name) (after' : Option (List ℕ)) (h'' : Holder)
    → later ≡ without (retired_by e) now → HandKept h' h'' → Keeps after (h' ∷ holders now) after' (h'' ∷ holders later) → SamePool new after last after' → Released a first later more old last before after' h h''
released_step a first now e more old new before after h h' so_far later last after' h'' is hand kept pool = record {
  lags = subst (λ xs. Lags a xs more) (sym is) (lags_step a now e more so_far.lags);
  images = subst (AreOf last) (sym is) (are_of-renamed new last (without (retired_by e) now) pool.name (are_of-step new now (retired_by e) so_far.images));
  hand = hand-then h h' h'' so_far.hand hand;
  kept = keeps-on before after after' (h ∷ holders first) (h' ∷ holders now) (h'' ∷ holders later) so_far.kept kept;
  pool = pool-then old new last before after after' so_far.pool pool;
}
