-- What a reader gave, as a shelf tells a file.
use Rattle.std.proofs.Common.{◌≡◌, ℕ, ◌+◌, ◌<◌, List, ◌++◌, length, take, Option, Some, None, Ok, Err, sym, ◌∙◌, ap, arith, append_assoc, append-nil, length-append}
use Rattle.std.specs.Io.{StartsWith, appended_bytes}
use Rattle.std.specs.Io.KnownBytes.{Consumes, IsAtEnd}
use Rattle.std.proofs.Math.Seq.{take-append_seam}
use Rattle.std.proofs.KnownBytes.{starts_with_rest}
use Rattle.vf_ports.specs.declared.shelf.ShelfRefusal.TheVariants.{Failed, TooLong, Memory}
use Rattle.vf_ports.specs.Shelf.{Fetches}
use Rattle.vf_adapters.specs.Reading.{told_by}

-- the reader had some bytes left: they are what was appended, and then what it has left now
rest_of : (xs ys old new : List ℕ) → StartsWith new old → xs ≡ appended_bytes old new ++ ys → old ++ xs ≡ new ++ ys
rest_of xs ys old new front given =
    ap (λ l. old ++ l) given ∙ sym (append_assoc old (appended_bytes old new) ys) ∙ ap (λ l. l ++ ys) (sym (starts_with_rest new old front))

-- nothing is left: all of it was appended
pub whole : {T : Type 0} (x : T) (before after : Option (List ℕ)) (old new : List ℕ) (max left : ℕ) → StartsWith new old
    → length new + left ≡ length old + max → Consumes before after (appended_bytes old new) → IsAtEnd after
    → Fetches (told_by before) max old new (Ok x)
whole x None after old new max left front room given end = tt
whole x (Some xs) None old new max left front room given end = absurd given
whole x (Some xs) (Some ys) old new max left front room given end =
    let all = rest_of xs ys old new front given ∙ ap (λ l. new ++ l) end ∙ append-nil new in
    (omega (arith, room, ap length all, length-append old xs), sym all)

-- what was appended is a front of what the reader had
front_of : (xs ys old new : List ℕ) → StartsWith new old → xs ≡ appended_bytes old new ++ ys → StartsWith (old ++ xs) new
front_of xs ys old new front given = ap (take (length new)) (rest_of xs ys old new front given) ∙ take-append_seam new ys

-- a read failed
pub failed : (T : Type 0) (before after : Option (List ℕ)) (old new : List ℕ) (max : ℕ) → StartsWith new old
    → Consumes before after (appended_bytes old new) → Fetches {T = T} (told_by before) max old new (Err Failed)
failed T None after old new max front given = tt
failed T (Some xs) None old new max front given = absurd given
failed T (Some xs) (Some ys) old new max front given = front_of xs ys old new front given

-- there was no memory to append what was read
pub unkept : (T : Type 0) (before after : Option (List ℕ)) (old new : List ℕ) (max : ℕ) → StartsWith new old
    → Consumes before after (appended_bytes old new) → Fetches {T = T} (told_by before) max old new (Err Memory)
unkept T None after old new max front given = tt
unkept T (Some xs) None old new max front given = absurd given
unkept T (Some xs) (Some ys) old new max front given = front_of xs ys old new front given

-- the reader gave more than was left of the limit
pub too_long : (T : Type 0) (before middle after : Option (List ℕ)) (old new more : List ℕ) (max left taken : ℕ) → StartsWith new old
    → length new + left ≡ length old + max → left < length more → Consumes before middle (appended_bytes old new) → Consumes middle after more
    → Fetches {T = T} (told_by before) max old new (Err (TooLong taken))
too_long T None middle after old new more max left taken front room many given next = tt
too_long T (Some xs) None after old new more max left taken front room many given next = absurd given
too_long T (Some xs) (Some ys) None old new more max left taken front room many given next = absurd next
too_long T (Some xs) (Some ys) (Some zs) old new more max left taken front room many given next =
    let all = rest_of xs ys old new front given in
    let sizes : length old + length xs ≡ length new + length ys = sym (length-append old xs) ∙ ap length all ∙ length-append new ys in
    let rest : length ys ≡ length more + length zs = ap length next ∙ length-append more zs in
    (omega (arith, room, many, sizes, rest), front_of xs ys old new front given)
