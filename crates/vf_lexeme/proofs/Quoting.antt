-- Strings: what is read between the quotes is what the definition says, and no other.
use Rattle.std.proofs.Common.{◌≡◌, ◌≢◌, ℕ, zero, suc, ◌+◌, ◌≤◌, ◌&&◌, Bool, true, false, not, eqb, leb, List, [], ◌∷◌, ◌++◌, length, take, drop, Option, Some, None, refl, sym, ap, ap₂, ◌∙◌, inl, inr, subst, append_assoc, arith}
use Rattle.std.specs.Option.{option_map}
use Rattle.std.proofs.lemmas.Bool.{cases_Bool, and_parts, eqb-true, eqb-false, ne_eqb, leb-true}
use Rattle.std.proofs.lemmas.List.{length-drop, take-append-drop}
use Rattle.vf_lexeme.specs.Bytes.{Ends}
use Rattle.vf_lexeme.specs.Strings.{is_octal, octal_byte, IsEscape, newline, tab, one, two, three, itself, Spells, nothing, plain, escape, IsQuoted}
use Rattle.vf_lexeme.specs.Reading.{inside_at, octal_code, escape_code, piece, decoded}
use Rattle.vf_lexeme.proofs.Stringing.{skip}

-- ---- the text of a string as it is scanned: byte by byte, a `\` takes the next along

data IsText : List ℕ → Type 0 where
  end : IsText []
  byte : {b : ℕ} {rest : List ℕ} → b ≢ 34 → b ≢ 92 → b ≢ 10 → IsText rest → IsText (b ∷ rest)
  pair : {b : ℕ} {rest text : List ℕ} → b ≢ 10 → IsText rest → text ≡ 92 ∷ b ∷ rest → IsText text

abbrev IsTextAt : Bool → List ℕ → Type 0
IsTextAt false text = IsText text
IsTextAt true [] = ⊥
IsTextAt true (b ∷ text) = (b ≢ 10) × IsText text

joined : (e now : Bool) (b : ℕ) (text : List ℕ) → b ≢ 10 → (not e && eqb b 34) ≡ false → (not e && eqb b 92) ≡ now
    → IsTextAt now text → IsTextAt e (b ∷ text)
joined true false b text other still n q = (other, q)
joined true true b text other still n q = absurd cc
joined false false b text other still n q = byte (eqb-false b 34 still) (eqb-false b 92 n) other q
joined false true b [] other still n q = absurd q
joined false true b (c ∷ text) other still n q = pair q.0 q.1 (ap (λ (x : ℕ). x ∷ c ∷ text) (eqb-true b 92 n))

closed_here : (e : Bool) → (not e) ≡ true → IsTextAt e []
closed_here true h = absurd cc
closed_here false h = end

-- the parts that a scan finds
record IsScanned (e : Bool) (text inside rest : List ℕ) : Type 0 where
  parts : text ≡ inside ++ 34 ∷ rest
  is_text : IsTextAt e inside

mapped : (b : ℕ) (o : Option (List ℕ × List ℕ)) (p : List ℕ × List ℕ)
    → option_map (λ (p : List ℕ × List ℕ). (b ∷ p.0, p.1)) o ≡ Some p
    → (q : List ℕ × List ℕ) × (o ≡ Some q) × (p.0 ≡ b ∷ q.0) × (p.1 ≡ q.1)
mapped b None p e = absurd cc
mapped b (Some q) p e =
    let same : (b ∷ q.0, q.1) ≡ p = cc in
    (q, refl, sym (ap (λ x. x.0) same), sym (ap (λ x. x.1) same))

scanned_more : (e now : Bool) (b : ℕ) (rest inside more x y : List ℕ) → x ≡ b ∷ inside → y ≡ more → b ≢ 10
    → (not e && eqb b 34) ≡ false → (not e && eqb b 92) ≡ now
    → IsScanned now rest inside more → IsScanned e (b ∷ rest) x y
scanned_more e now b rest inside more x y ex ey other still n s =
    rw (ex, ey) (record { parts = ap (λ (t : List ℕ). b ∷ t) s.parts; is_text = joined e now b inside other still n s.is_text })

scanned : (text : List ℕ) (e : Bool) (p : List ℕ × List ℕ) → inside_at e text ≡ Some p → IsScanned e text p.0 p.1
unfolding inside_at
scanned [] e p h = absurd cc
scanned (b ∷ rest) e p h = elim (cases_Bool (eqb b 10)) [
  | inl broken ↦ let none : None ≡ Some p = rw broken at h in absurd cc
  | inr other ↦ elim (cases_Bool (not e && eqb b 34)) [
    | inl closed ↦
        let q = and_parts (not e) (eqb b 34) closed in
        let same : Some ([], rest) ≡ Some p = rw (other, closed) at h in
        let pair_is : ([], rest) ≡ p = cc in
        subst (λ (x : List ℕ × List ℕ). IsScanned e (b ∷ rest) x.0 x.1) pair_is
        (record { parts = ap (λ (x : ℕ). x ∷ rest) (eqb-true b 34 q.1); is_text = closed_here e q.0 })
    | inr still ↦
        let now = not e && eqb b 92 in
        let m = mapped b (inside_at now rest) p (rw (other, still) at h) in
        let s = scanned rest now m.0 m.1 in
        scanned_more e now b rest m.0.0 m.0.1 p.0 p.1 m.2 m.3 (eqb-false b 10 other) still refl s
  ]
]

-- ---- what it stands for

octal_range : (b : ℕ) → is_octal b ≡ true → (48 ≤ b) × (b ≤ 55)
octal_range b h =
    let p = and_parts (leb 48 b) (leb b 55) h in
    (leb-true 48 b p.0, leb-true b 55 p.1)

octal_first : (b : ℕ) (rest : List ℕ) → is_octal b ≡ true → IsText (b ∷ rest) → IsText rest
octal_first b rest h (byte x y z t) = t
octal_first b rest h (pair x t e) =
    let r = octal_range b h in
    let is : b ≡ 92 = cc in
    absurd (omega arith)

-- an escape at the front of what stands after a `\`
record IsCoded (a : ℕ) (rest : List ℕ) (code : ℕ × ℕ) : Type 0 where
  within : code.1 ≤ length rest
  is_escape : IsEscape (a ∷ take code.1 rest) code.0 (drop code.1 rest)
  keeps : IsText rest → IsText (drop code.1 rest)

one_octal : (a : ℕ) (rest : List ℕ) → is_octal a ≡ true → Ends is_octal rest → IsCoded a rest (octal_byte (a ∷ []), 0)
one_octal a rest h ends = record { within = omega arith; is_escape = one a h ends refl refl; keeps = λ t. t }

two_octal : (a b : ℕ) (rest : List ℕ) → is_octal a ≡ true → is_octal b ≡ true → Ends is_octal rest
    → IsCoded a (b ∷ rest) (octal_byte (a ∷ b ∷ []), 1)
two_octal a b rest h k ends = record
    { within = omega arith; is_escape = two a b h k ends refl refl; keeps = λ t. octal_first b rest k t }

octal_coded : (a : ℕ) (rest : List ℕ) → is_octal a ≡ true → IsCoded a rest (octal_code a rest)
unfolding octal_code
octal_coded a [] h = one_octal a [] h tt
octal_coded a (b ∷ []) h = elim (cases_Bool (is_octal b)) [
  | inl k ↦ rw k (two_octal a b [] h k tt)
  | inr k ↦ rw k (one_octal a (b ∷ []) h k)
]
octal_coded a (b ∷ c ∷ rest) h = elim (cases_Bool (is_octal b)) [
  | inr k ↦ rw k (one_octal a (b ∷ c ∷ rest) h k)
  | inl k ↦ elim (cases_Bool (is_octal c)) [
    | inr l ↦ rw (k, l) (two_octal a b (c ∷ rest) h k l)
    | inl l ↦ rw (k, l) (record {
      within = omega arith;
      is_escape = three a b c h k l refl refl;
      keeps = λ t. octal_first c rest l (octal_first b (c ∷ rest) k t);
    })
  ]
]

escape_coded : (a : ℕ) (rest : List ℕ) → a ≢ 10 → IsCoded a rest (escape_code a rest)
unfolding escape_code
escape_coded a rest other = elim (cases_Bool (eqb a 110)) [
  | inl n ↦ rw n (record {
    within = omega arith;
    is_escape = newline (ap (λ (x : ℕ). x ∷ []) (eqb-true a 110 n)) refl;
    keeps =
        λ t. t;
  })
  | inr n ↦ elim (cases_Bool (eqb a 116)) [
    | inl t ↦ rw (n, t) (record {
      within = omega arith;
      is_escape = tab (ap (λ (x : ℕ). x ∷ []) (eqb-true a 116 t)) refl;
      keeps =
          λ t. t;
    })
    | inr t ↦ elim (cases_Bool (is_octal a)) [
      | inl o ↦ rw (n, t, o) (octal_coded a rest o)
      | inr o ↦ rw (n, t, o) (record {
        within = omega arith;
        is_escape =
            itself (eqb-false a 110 n) (eqb-false a 116 t) other o refl;
        keeps = λ t. t;
      })
    ]
  ]
]

plain_piece : (b : ℕ) (rest : List ℕ) → b ≢ 92 → decoded 0 (b ∷ rest) ≡ b ∷ decoded 0 rest
unfolding decoded piece
plain_piece b [] other = refl
plain_piece b (c ∷ rest) other = rw (ne_eqb b 92 other) refl

pair_piece : (a : ℕ) (rest : List ℕ)
    → decoded 0 (92 ∷ a ∷ rest) ≡ (escape_code a rest).0 ∷ decoded 0 (drop (escape_code a rest).1 rest)
unfolding decoded piece
pair_piece a rest =
    let n = (escape_code a rest).1 in
    let more : n + 1 ≡ suc n = omega arith in
    ap (λ (t : List ℕ). (escape_code a rest).0 ∷ t) (ap (λ k. decoded k (a ∷ rest)) more ∙ skip n rest)

spelled_by : (k : ℕ) (text : List ℕ) → length text ≤ k → IsText text → Spells text (decoded 0 text)
unfolding decoded
spelled_by k _ h end = nothing
spelled_by zero _ h (byte {b} {rest} x y z t) = absurd (omega arith)
spelled_by (suc k) _ h (byte {b} {rest} x y z t) = rw (plain_piece b rest y) (plain x y z (spelled_by k rest (omega arith) t))
spelled_by zero text h (pair {b} {rest} x t e) = let size = ap length e in absurd (omega arith)
spelled_by (suc k) text h (pair {b} {rest} x t e) =
    let s = escape_coded b rest x in
    let n = (escape_code b rest).1 in
    let after = drop n rest in
    let size = ap length e in
    let more = spelled_by k after (omega (arith, length-drop n rest)) (s.keeps t) in
    let whole : text ≡ 92 ∷ ((b ∷ take n rest) ++ after) = e ∙ ap (λ (r : List ℕ). 92 ∷ b ∷ r) (sym (take-append-drop n rest)) in
    subst (λ v. Spells text v) (sym (ap (decoded 0) e ∙ pair_piece b rest)) (escape s.is_escape more whole)

pub string_sound : (text inside rest : List ℕ) → inside_at false text ≡ Some (inside, rest) → IsQuoted text (decoded 0 inside) rest
string_sound text inside rest h =
    let s = scanned text false (inside, rest) h in
    record { inside = inside; spelled = spelled_by (length inside) inside (omega arith) s.is_text; closed = s.parts }

-- ---- and back

step_plain : (b : ℕ) (rest inside more : List ℕ) → b ≢ 34 → b ≢ 92 → b ≢ 10 → inside_at false rest ≡ Some (inside, more)
    → inside_at false (b ∷ rest) ≡ Some (b ∷ inside, more)
unfolding inside_at
step_plain b rest inside more x y z h = rw (ne_eqb b 10 z, ne_eqb b 34 x, ne_eqb b 92 y, h) refl

step_pair : (b : ℕ) (rest inside more : List ℕ) → b ≢ 10 → inside_at false rest ≡ Some (inside, more)
    → inside_at false (92 ∷ b ∷ rest) ≡ Some (92 ∷ b ∷ inside, more)
unfolding inside_at
step_pair b rest inside more z h = rw (ne_eqb b 10 z, h) refl

octal_step : (b : ℕ) (rest inside more : List ℕ) → is_octal b ≡ true → inside_at false rest ≡ Some (inside, more)
    → inside_at false (b ∷ rest) ≡ Some (b ∷ inside, more)
octal_step b rest inside more o h =
    let r = octal_range b o in
    step_plain b rest inside more (λ e. omega arith) (λ e. omega arith) (λ e. omega arith) h

-- what is scanned and read of a code and what follows it
record IsBack (code : List ℕ) (byte : ℕ) (rest : List ℕ) : Type 0 where
  scans : (text more : List ℕ) → inside_at false text ≡ Some (rest, more)
      → inside_at false (92 ∷ (code ++ text)) ≡ Some (92 ∷ (code ++ rest), more)
  reads : decoded 0 (92 ∷ (code ++ rest)) ≡ byte ∷ decoded 0 rest

single : (a b : ℕ) (rest : List ℕ) → a ≢ 10 → escape_code a rest ≡ (b, 0) → IsBack (a ∷ []) b rest
single a b rest z h = record {
  scans = λ text more e. step_pair a text rest more z e;
  reads = pair_piece a rest ∙ ap₂ (λ (x : ℕ) (k : ℕ). x ∷ decoded 0 (drop k rest)) (ap (λ p. p.0) h) (ap (λ p. p.1) h);
}

octal_escape : (a : ℕ) (rest : List ℕ) → is_octal a ≡ true → escape_code a rest ≡ octal_code a rest
unfolding escape_code
octal_escape a rest o =
    let r = octal_range a o in
    let n : eqb a 110 ≡ false = ne_eqb a 110 (λ e. omega arith) in
    let t : eqb a 116 ≡ false = ne_eqb a 116 (λ e. omega arith) in
    rw (n, t, o) refl

one_code : (a : ℕ) (rest : List ℕ) → Ends is_octal rest → octal_code a rest ≡ (octal_byte (a ∷ []), 0)
unfolding octal_code
one_code a [] ends = refl
one_code a (b ∷ []) ends = rw ends refl
one_code a (b ∷ c ∷ rest) ends = rw ends refl

two_code : (a b : ℕ) (rest : List ℕ) → is_octal b ≡ true → Ends is_octal rest
    → octal_code a (b ∷ rest) ≡ (octal_byte (a ∷ b ∷ []), 1)
unfolding octal_code
two_code a b [] k ends = rw k refl
two_code a b (c ∷ rest) k ends = rw (k, ends) refl

three_code : (a b c : ℕ) (rest : List ℕ) → is_octal b ≡ true → is_octal c ≡ true
    → octal_code a (b ∷ c ∷ rest) ≡ (octal_byte (a ∷ b ∷ c ∷ []), 2)
unfolding octal_code
three_code a b c rest k l = rw (k, l) refl

octal_other : (a : ℕ) → is_octal a ≡ true → a ≢ 10
octal_other a o e = let r = octal_range a o in absurd (omega arith)

newline_code : (rest : List ℕ) → escape_code 110 rest ≡ (10, 0)
unfolding escape_code
newline_code rest = refl

tab_code : (rest : List ℕ) → escape_code 116 rest ≡ (9, 0)
unfolding escape_code
tab_code rest = refl

itself_code : (b : ℕ) (rest : List ℕ) → b ≢ 110 → b ≢ 116 → is_octal b ≡ false → escape_code b rest ≡ (b, 0)
unfolding escape_code
itself_code b rest n t o = rw (ne_eqb b 110 n, ne_eqb b 116 t, o) refl

back : (code : List ℕ) (b : ℕ) (rest : List ℕ) → IsEscape code b rest → IsBack code b rest
back code b rest (newline e v) = rw (e, v) (single 110 10 rest (λ x. absurd cc) (newline_code rest))
back code b rest (tab e v) = rw (e, v) (single 116 9 rest (λ x. absurd cc) (tab_code rest))
back code b rest (itself n t z o e) = rw e (single b b rest z (itself_code b rest n t o))
back code b rest (one a h ends e v) =
    rw (v, e) (single a (octal_byte (a ∷ [])) rest (octal_other a h) (octal_escape a rest h ∙ one_code a rest ends))
back code b rest (two a d h k ends e v) =
    let is = octal_escape a (d ∷ rest) h ∙ two_code a d rest k ends in
    rw (v, e) (record {
      scans = λ text more s. step_pair a (d ∷ text) (d ∷ rest) more (octal_other a h) (octal_step d text rest more k s);
      reads = pair_piece a (d ∷ rest)
          ∙ ap₂ (λ (x : ℕ) (n : ℕ). x ∷ decoded 0 (drop n (d ∷ rest))) (ap (λ p. p.0) is) (ap (λ p. p.1) is);
    })
back code b rest (three a d f h k l e v) =
    let is = octal_escape a (d ∷ f ∷ rest) h ∙ three_code a d f rest k l in
    rw (v, e) (record {
      scans = λ text more s. step_pair a (d ∷ f ∷ text) (d ∷ f ∷ rest) more (octal_other a h)
          (octal_step d (f ∷ text) (f ∷ rest) more k (octal_step f text rest more l s));
      reads = pair_piece a (d ∷ f ∷ rest)
          ∙ ap₂ (λ (x : ℕ) (n : ℕ). x ∷ decoded 0 (drop n (d ∷ f ∷ rest))) (ap (λ p. p.0) is) (ap (λ p. p.1) is);
    })

closes : (rest : List ℕ) → inside_at false (34 ∷ rest) ≡ Some ([], rest)
unfolding inside_at
closes rest = refl

pub scan_complete : (inside value more : List ℕ) → Spells inside value → inside_at false (inside ++ 34 ∷ more) ≡ Some (inside, more)
scan_complete _ _ more nothing = closes more
scan_complete _ _ more (plain {byte} {rest} {value} x y z s) =
    step_plain byte (rest ++ 34 ∷ more) rest more x y z (scan_complete rest value more s)
scan_complete inside _ more (escape {code} {rest} {value} {byte} c s e) =
    let whole : inside ++ 34 ∷ more ≡ 92 ∷ (code ++ (rest ++ 34 ∷ more)) = ap (λ (t : List ℕ). t ++ 34 ∷ more) e
    ∙ ap (λ (t : List ℕ). 92 ∷ t) (append_assoc code rest (34 ∷ more)) in
    ap (inside_at false) whole ∙ (back code byte rest c).scans (rest ++ 34 ∷ more) more (scan_complete rest value more s)
    ∙ ap (λ (t : List ℕ). Some (t, more)) (sym e)

nothing_read : decoded 0 [] ≡ []
unfolding decoded
nothing_read = refl

pub read_complete : (inside value : List ℕ) → Spells inside value → decoded 0 inside ≡ value
read_complete _ _ nothing = nothing_read
read_complete _ _ (plain {byte} {rest} {value} x y z s) = plain_piece byte rest y
    ∙ ap (λ (t : List ℕ). byte ∷ t) (read_complete rest value s)
read_complete inside _ (escape {code} {rest} {value} {byte} c s e) =
    ap (decoded 0) e ∙ (back code byte rest c).reads ∙ ap (λ (t : List ℕ). byte ∷ t) (read_complete rest value s)

pub string_complete : (text value rest : List ℕ) → IsQuoted text value rest → (inside : List ℕ)
    × (inside_at false text ≡ Some (inside, rest)) × (decoded 0 inside ≡ value)
string_complete text value rest q =
    (q.inside, ap (inside_at false) q.closed ∙ scan_complete q.inside value rest q.spelled, read_complete q.inside value q.spelled)
