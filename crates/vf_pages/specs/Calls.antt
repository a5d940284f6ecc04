-- What the calls of a holder's pages do (docs/FARM.md, "Pages").
use Rattle.std.specs.Prelude.{◌≡◌, ℕ, ◌+◌, ◌<◌, ◌≤◌, true, false, ◌||◌, List, [], ◌∷◌, length, Some, is_some}
use Rattle.vf_base.specs.declared.write.Write.{Write}
use Rattle.vf_frames.specs.declared.holder.Note.{Note}
use Rattle.vf_frames.specs.declared.holder.Holder.{Holder}
use Rattle.vf_frames.specs.Numbers.{has}
use Rattle.vf_frames.specs.Holders.{total, count}
use Rattle.vf_frames.specs.Calls.{capped, NoWin, NotesGrow, SameRest, Opened}
use Rattle.vf_pages.specs.declared.refusal.PageRefusal.{PageRefusal}
use Rattle.vf_pages.specs.declared.refusal.PageRefusal.TheVariants.{Short, Memory}
use Rattle.vf_pages.specs.Pages.{Page, Pages, entry, or_entry, frame_at, word_of}
use Rattle.vf_pages.specs.Writes.{touches, written, written_pages}
use Rattle.vf_pages.specs.Bases.{left_of}
use Rattle.vf_pages.specs.Needs.{need, new_pages, free_frames, frames_held}
use Rattle.vf_pages.specs.Gathered.{SeenAlone, ShortNotes}

-- each written page is in a frame that some step saw with the count 1
abbrev pub EachAlone : List Write → List Page → List Note → Type 0
EachAlone writes pages added = (p f : ℕ) → touches p writes ≡ true → frame_at p pages ≡ Some f → SeenAlone added f

-- the words are written, the pages that writes fall on are held, and the others are as before
pub record Wrote (writes : List Write) (old new : Pages) : Type 0 where
  pub words : (a : ℕ) → word_of new a ≡ written writes a (word_of old a)
  pub held : (p : ℕ) → is_some (entry p new.pages) ≡ (touches p writes || is_some (entry p old.pages))
  pub others : (p : ℕ) → touches p writes ≡ false → entry p new.pages ≡ entry p old.pages
  pub zero : new.zero ≡ old.zero
  pub rest : SameRest old.holder new.holder
  pub notes : NotesGrow (EachAlone writes new.pages) old.holder.notes new.holder.notes

-- where the pool accounts for these others too: none of them has the frame of a written page, a frame that none of them had is kept, and there were frames enough
pub record WroteAmong (writes : List Write) (old new : Pages) (others : List Holder) : Type 0 where
  pub alone : (p f : ℕ) → touches p writes ≡ true → frame_at p new.pages ≡ Some f → count f others ≡ 0
  pub kept : (p f : ℕ) → touches p writes ≡ true → frame_at p old.pages ≡ Some f → count f others ≡ 0 → frame_at p new.pages ≡ Some f
  pub enough : need others old.pages (written_pages writes) ≤ free_frames old.holder.name.frames (old.holder ∷ others)

-- a claim found no frame: k is how many pages there would be
pub record IsShort (k : ℕ) (writes : List Write) (old new : Pages) : Type 0 where
  pub number : k ≡ length old.pages + new_pages old.pages (written_pages writes)
  pub misses : new.holder.misses ≡ capped (old.holder.misses + 1)
  pub parts : new.holder.parts ≡ old.holder.parts
  pub name : new.holder.name ≡ old.holder.name
  pub notes : NotesGrow (ShortNotes old.holder.name.frames (length (written_pages writes))) old.holder.notes new.holder.notes

-- where the pool accounts for these others too: fewer frames are free than the writes need, and the pages that there would be do not fit beside those of the others
pub record ShortAmong (k : ℕ) (writes : List Write) (old : Pages) (others : List Holder) : Type 0 where
  pub lacking : free_frames old.holder.name.frames (old.holder ∷ others) < need others old.pages (written_pages writes)
  pub beyond : old.holder.name.frames < k + total frames_held others

-- a fact of a refusal that is `Short`, and one of `Memory`
abbrev pub OnRefusal : PageRefusal → (ℕ → Type 0) → Type 0 → Type 0
OnRefusal (Short k) P Q = P k
OnRefusal Memory P Q = Q

-- it was out of memory: notes may have grown
pub record IsUnmade (old new : Pages) : Type 0 where
  pub rest : SameRest old.holder new.holder
  pub notes : NotesGrow (λ _. Unit {0}) old.holder.notes new.holder.notes

-- no page is held, and the words are those at time zero
pub record IsAtZero (words : List ℕ) (from from' : Holder) (new : Pages) : Type 0 where
  pub zero : new.zero ≡ words
  pub pages : new.pages ≡ []
  pub opened : Opened 1 from from' new.holder

-- another holder of the same words and frames, with one of the parts of `from`
pub record Forked (of : Pages) (from from' : Holder) (new : Pages) : Type 0 where
  pub zero : new.zero ≡ of.zero
  pub pages : new.pages ≡ of.pages
  pub misses : new.holder.misses ≡ 0
  pub parts : new.holder.parts ≡ 1
  pub name : new.holder.name ≡ of.holder.name
  pub told : is_some new.holder.notes ≡ is_some from.notes
  pub source_frames : from'.frames ≡ from.frames
  pub source_misses : from'.misses ≡ from.misses
  pub source_parts : from'.parts + 1 ≡ from.parts
  pub source_name : from'.name ≡ from.name
  pub source_notes : NotesGrow NoWin from.notes from'.notes

-- another holder of these pages and of those of a base under them, with one of the parts of `from`
pub record ForkedOver (of base : Pages) (from from' : Holder) (new : Pages) : Type 0 where
  pub zero : new.zero ≡ of.zero
  pub pages : (p : ℕ) → entry p new.pages ≡ or_entry (entry p of.pages) (entry p base.pages)
  pub misses : new.holder.misses ≡ 0
  pub parts : new.holder.parts ≡ 1
  pub name : new.holder.name ≡ of.holder.name
  pub told : is_some new.holder.notes ≡ is_some from.notes
  pub source_frames : from'.frames ≡ from.frames
  pub source_misses : from'.misses ≡ from.misses
  pub source_parts : from'.parts + 1 ≡ from.parts
  pub source_name : from'.name ≡ from.name
  pub source_notes : NotesGrow NoWin from.notes from'.notes

-- the pages are left that the base lacks, or has with other words
pub record KeptChanged (base old new : Pages) : Type 0 where
  pub zero : new.zero ≡ old.zero
  pub pages : (p : ℕ) → entry p new.pages ≡ left_of base.pages (entry p old.pages)
  pub rest : SameRest old.holder new.holder
  pub notes : NotesGrow NoWin old.holder.notes new.holder.notes

-- another holder takes the misses and parts, and no frame
pub record GivenBack (of : Pages) (into into' : Holder) : Type 0 where
  pub frames : (f : ℕ) → has f into'.frames ≡ has f into.frames
  pub misses : into'.misses ≡ capped (into.misses + of.holder.misses)
  pub parts : into'.parts ≡ capped (into.parts + of.holder.parts)
  pub name : into'.name ≡ into.name
  pub notes : NotesGrow (λ _. Unit {0}) into.notes into'.notes
