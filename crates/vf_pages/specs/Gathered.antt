-- The pages that writes replace or bring, made and claimed before any page is changed.
use Rattle.std.specs.Prelude.{◌≡◌, ℕ, ◌+◌, ◌<◌, ◌≤◌, true, List, [], ◌∷◌, ◌++◌, length, Option, Some, None}
use Rattle.std.specs.List.{Any}
use Rattle.vf_base.specs.declared.write.Write.{Write}
use Rattle.vf_frames.specs.declared.holder.Note.{Note}
use Rattle.vf_frames.specs.declared.holder.Holder.{Holder}
use Rattle.vf_frames.specs.Holders.{Accounts, Keeps, AllHeld, count}
use Rattle.vf_frames.specs.Calls.{capped, wins, NoWin, SeenHeld, NotesGrow, SameRest, Claimed, Missed}
use Rattle.vf_pages.specs.declared.gather.Lack.{Lack}
use Rattle.vf_pages.specs.declared.gather.Lack.TheVariants.{Frame, Memory}
use Rattle.vf_pages.specs.Pages.{Page, entry, or_entry, old_words, Owns, IsSorted}
use Rattle.vf_pages.specs.Writes.{touches, written_pages, after, AllBefore}
use Rattle.vf_pages.specs.Needs.{need, free_frames}

-- some step saw the frame with the count 1
abbrev pub SeenAlone : List Note → ℕ → Type 0
SeenAlone notes f = Any (λ n. (n.frame ≡ f) × (n.seen ≡ 1)) notes

-- a won claim for each fresh page, and each page written, fresh or kept, in a frame seen alone
pub record GatherNotes (pages : List Page) (done : List Write) (fresh : List Page) (added : List Note) : Type 0 where
  pub won : wins added ≡ length fresh
  pub alone : (p : ℕ) (e : Page) → touches p done ≡ true → or_entry (entry p fresh) (entry p pages) ≡ Some e → SeenAlone added e.frame

-- the counts where the pool accounts for the holder and others
pub record CountedPages (pages : List Page) (done : List Write) (fresh : List Page) (before now : Holder) (others : List Holder) : Type 0 where
  pub kept_alone : (p : ℕ) (o : Page) → touches p done ≡ true → entry p fresh ≡ None → entry p pages ≡ Some o → count o.frame others ≡ 0
  pub fresh_alone : (p : ℕ) (e : Page) → entry p fresh ≡ Some e → count e.frame others ≡ 0
  pub was_shared : (p : ℕ) (e o : Page) → entry p fresh ≡ Some e → entry p pages ≡ Some o → 1 ≤ count o.frame others
  pub needed : length fresh ≡ need others pages (written_pages done)
  pub taken : free_frames before.name.frames (now ∷ others) + length fresh ≡ free_frames before.name.frames (before ∷ others)

-- the holder may have notes more, none of a won claim, and all else is as before
pub record Noted (before now : Holder) : Type 0 where
  pub frames : now.frames ≡ before.frames
  pub rest : SameRest before now
  pub notes : NotesGrow NoWin before.notes now.notes

-- for the writes done so far, each page that is new or shared has a fresh one in a claimed frame
pub record Gathered (zero : List ℕ) (pages : List Page) (done : List Write) (a0 : Option (List ℕ)) (before : Holder) (a : Option (List ℕ)) (now : Holder) (fresh : List Page) : Type 0 where
  pub sorted : IsSorted fresh
  pub made : (p : ℕ) (e : Page) → entry p fresh ≡ Some e → (touches p done ≡ true) × (e.words ≡ after done p (old_words zero p (entry p pages)))
  pub kept : (p : ℕ) → touches p done ≡ true → entry p fresh ≡ None → (o : Page) × (entry p pages ≡ Some o)
  pub owns : Owns pages fresh now.frames
  pub rest : SameRest before now
  pub accounts : Keeps a0 (before ∷ []) a (now ∷ [])
  pub notes : NotesGrow (GatherNotes pages done fresh) before.notes now.notes
  pub counted : (others : List Holder) → Accounts a0 (before ∷ others) → CountedPages pages done fresh before now others
  pub few : length fresh ≤ length (written_pages done)

-- a claimed frame for one page more
pub record Added (number : ℕ) (content : List ℕ) (a : Option (List ℕ)) (before now : Holder) (fresh fresh' : List Page) : Type 0 where
  pub frame : ℕ
  pub is : fresh' ≡ fresh ++ record { page = number; frame = frame; words = content } ∷ []
  pub within : frame < before.name.frames
  pub claimed : Claimed frame before now
  pub unheld : (others : List Holder) → Accounts a (before ∷ others) → count frame (before ∷ others) ≡ 0

-- no frame was free
pub record NoFrame (a : Option (List ℕ)) (before now : Holder) : Type 0 where
  pub missed : Missed before now
  pub full : (others : List Holder) → Accounts a (before ∷ others) → AllHeld before.name.frames (before ∷ others)

abbrev pub OnLack : Lack → Type 0 → Type 0 → Type 0
OnLack Frame P Q = P
OnLack Memory P Q = Q

-- fewer won claims than pages, and every frame seen held
pub record ShortNotes (frames pages : ℕ) (added : List Note) : Type 0 where
  pub few : wins added < pages
  pub each : (f : ℕ) → f < frames → SeenHeld added f

-- a claim found no frame: what was gathered is to be given back
pub record Short (pages : List Page) (writes : List Write) (a0 : Option (List ℕ)) (before : Holder) (a : Option (List ℕ)) (now : Holder) (fresh : List Page) : Type 0 where
  pub owns : Owns pages fresh now.frames
  pub misses : now.misses ≡ capped (before.misses + 1)
  pub parts : now.parts ≡ before.parts
  pub name : now.name ≡ before.name
  pub accounts : Keeps a0 (before ∷ []) a (now ∷ [])
  pub notes : NotesGrow (ShortNotes before.name.frames (length (written_pages writes))) before.notes now.notes
  pub lacking : (others : List Holder) → Accounts a0 (before ∷ others) → free_frames before.name.frames (before ∷ others) < need others pages (written_pages writes)

-- it was out of memory: what was gathered is to be given back
pub record Unmade (pages : List Page) (a0 : Option (List ℕ)) (before : Holder) (a : Option (List ℕ)) (now : Holder) (fresh : List Page) : Type 0 where
  pub owns : Owns pages fresh now.frames
  pub rest : SameRest before now
  pub accounts : Keeps a0 (before ∷ []) a (now ∷ [])
  pub notes : NotesGrow (λ _. Unit {0}) before.notes now.notes

-- the writes of one page take what was gathered one page on
abbrev pub Goes : List ℕ → List Page → ℕ → List Write → Option (List ℕ) → Holder → List Page → Option (List ℕ) → Holder → List Page → Type 0
Goes zero pages p own a now fresh a' now' fresh' =
    (done : List Write) (a0 : Option (List ℕ)) (before : Holder) → AllBefore done p → Gathered zero pages done a0 before a now fresh → Gathered zero pages (done ++ own) a0 before a' now' fresh'

-- or they end it, where there is no frame or no memory
abbrev pub Ends : List ℕ → List Page → ℕ → List Write → Option (List ℕ) → Holder → List Page → Option (List ℕ) → Holder → List Page → Lack → Type 0
Ends zero pages p own a now fresh a' now' fresh' lack =
    (done : List Write) (a0 : Option (List ℕ)) (before : Holder) → AllBefore done p → Gathered zero pages done a0 before a now fresh → OnLack lack (Short pages (done ++ own) a0 before a' now' fresh') (Unmade pages a0 before a' now' fresh')
