-- What each call of a pool does to the holders that it is given (docs/FARM.md, "Frames").
use Rattle.std.specs.Prelude.{◌≡◌, ℕ, ◌+◌, ◌-◌, ◌^◌, ◌<◌, ◌≤◌, min, ◌↔◌, IsTrue, Bool, true, false, List, [], ◌∷◌, ◌++◌, count_by, Option, Some, None, is_some}
use Rattle.std.specs.List.{Any}
use Rattle.vf_frames.specs.declared.holder.Note.{Note}
use Rattle.vf_frames.specs.declared.holder.Holder.{Holder}
use Rattle.vf_frames.specs.Numbers.{Gains, Loses, Unites}

-- a count of 64 bits, which stands still at its end
abbrev pub capped : ℕ → ℕ
capped n = min n (2 ^ 64 - 1)

-- how many of the notes are won claims
abbrev pub wins : List Note → ℕ
wins notes = count_by (λ n. n.won) notes

abbrev pub NoWin : List Note → Type 0
NoWin notes = wins notes ≡ 0

-- some step saw the frame with a count above 0
abbrev pub SeenHeld : List Note → ℕ → Type 0
SeenHeld notes f = Any (λ n. (n.frame ≡ f) × (1 ≤ n.seen)) notes

-- notes only grow: where they were told they are told, and what was added meets the fact
abbrev pub NotesGrow : (List Note → Type 0) → Option (List Note) → Option (List Note) → Type 0
NotesGrow P None after = after ≡ None
NotesGrow P (Some notes) after = (added : List Note) × (after ≡ Some (notes ++ added)) × P added

-- lost claims, and then the won claim of the frame
pub record NotesWin (f : ℕ) (added : List Note) : Type 0 where
  pub lost : List Note
  pub none_won : NoWin lost
  pub is : added ≡ lost ++ record { frame = f; seen = 1; won = true } ∷ []

-- no won claim, and each of the first n frames seen with a count above 0
pub record NotesMiss (n : ℕ) (added : List Note) : Type 0 where
  pub none_won : NoWin added
  pub each : (f : ℕ) → f < n → SeenHeld added f

-- the frame with its count, which is 1 exactly where it was found alone
pub record NotesLook (f : ℕ) (answer : Bool) (added : List Note) : Type 0 where
  pub seen : ℕ
  pub is : added ≡ record { frame = f; seen = seen; won = false } ∷ []
  pub alone : IsTrue answer ↔ (seen ≡ 1)

-- misses, parts and name are as before
pub record SameRest (before after : Holder) : Type 0 where
  pub misses : after.misses ≡ before.misses
  pub parts : after.parts ≡ before.parts
  pub name : after.name ≡ before.name

pub record Claimed (f : ℕ) (before after : Holder) : Type 0 where
  pub frames : Gains f before.frames after.frames
  pub rest : SameRest before after
  pub notes : NotesGrow (NotesWin f) before.notes after.notes

pub record Missed (before after : Holder) : Type 0 where
  pub frames : after.frames ≡ before.frames
  pub misses : after.misses ≡ capped (before.misses + 1)
  pub parts : after.parts ≡ before.parts
  pub name : after.name ≡ before.name
  pub notes : NotesGrow (NotesMiss before.name.frames) before.notes after.notes

pub record Held (f : ℕ) (before after : Holder) : Type 0 where
  pub frames : Gains f before.frames after.frames
  pub rest : SameRest before after
  pub notes : NotesGrow NoWin before.notes after.notes

pub record Released (f : ℕ) (before after : Holder) : Type 0 where
  pub frames : Loses f before.frames after.frames
  pub rest : SameRest before after
  pub notes : NotesGrow NoWin before.notes after.notes

pub record Looked (f : ℕ) (alone : Bool) (before after : Holder) : Type 0 where
  pub frames : after.frames ≡ before.frames
  pub rest : SameRest before after
  pub notes : NotesGrow (NotesLook f alone) before.notes after.notes

-- a new holder with the parts that it is given, which its source has less
pub record Opened (given : ℕ) (before after new : Holder) : Type 0 where
  pub frames : new.frames ≡ []
  pub misses : new.misses ≡ 0
  pub parts : new.parts ≡ given
  pub name : new.name ≡ before.name
  pub told : is_some new.notes ≡ is_some before.notes
  pub source_frames : after.frames ≡ before.frames
  pub source_misses : after.misses ≡ before.misses
  pub source_parts : after.parts + given ≡ before.parts
  pub source_name : after.name ≡ before.name
  pub source_notes : NotesGrow NoWin before.notes after.notes

-- one holder in place of two
pub record Joined (before other after : Holder) : Type 0 where
  pub frames : Unites before.frames other.frames after.frames
  pub misses : after.misses ≡ capped (before.misses + other.misses)
  pub parts : after.parts ≡ capped (before.parts + other.parts)
  pub name : after.name ≡ before.name
  pub notes : NotesGrow (λ _. Unit {0}) before.notes after.notes
