-- How many held images stand on the image of a node.
use Rattle.std.proofs.Common.{◌≡◌, ℕ, ◌+◌, ◌<◌, ◌≤◌, ◌^◌, Bool, true, false, ◌||◌, ◌==◌, nat_lt, not, cond, List, [], ◌∷◌, ◌++◌, length, map, Option, Some, None, is_some, option_map, option_and_then, refl, sym, ◌∙◌, ap, arith, get_or, sum_by}
use Rattle.std.specs.List.{list_any, find, filter, All}
use Rattle.std.proofs.lemmas.Bool.{false≢true, eqb-true, eqb-false, lt-ltb, ne_eqb, or_parts}
use Rattle.std.proofs.lemmas.List.Elements.{All-nil, All-cons}
use Rattle.std.proofs.lemmas.List.Sums.{sum_by-append, sum_by-cons}
use Rattle.vf_base.specs.declared.names.NodeNo.{NodeNo}
use Rattle.vf_jobs.specs.Jobs.{node_no}
use Rattle.vf_journal.specs.Holding.{AreDistinct}
use Rattle.vf_journal.specs.Records.{Held, is_base}
use Rattle.vf_journal.proofs.CallerLemmas.{distinct_more}
use Rattle.vf_records.specs.declared.row.HeldImage.{HeldImage}
use Rattle.vf_records.specs.Counts.{one}
use Rattle.vf_records.specs.Tables.{held_of, pins_in, ArePinned, AreImaged}
use Rattle.vf_records.proofs.CountLemmas.{one_most}
use Rattle.vf_records.proofs.RetireLemmas.{without_none}
use Rattle.vf_records.proofs.ImageTable.{is_of, shown_image}

-- ---- an image more and an image less

pub pins_most : (held : List HeldImage) (n : ℕ) → pins_in held n ≤ length held
pins_most [] n = omega arith
pins_most (h ∷ held) n =
    let rest = pins_most held n in
    let here = one_most (is_base (node_no n) h.base) in
    let sum = sum_by-cons (λ (h : HeldImage). one (is_base (node_no n) h.base)) h held in
    omega (arith, rest, here, sum)

pub pinned_more : (held : List HeldImage) (pins new : List ℕ) (last : HeldImage) → ArePinned held pins → length held + 1 < 2 ^ 64 → length new ≡ length pins
    → ((n : ℕ) → n < length pins → get_or pins n 0 + 1 < 2 ^ 64 → get_or new n 0 ≡ get_or pins n 0 + one (is_base (node_no n) last.base))
    → ArePinned (held ++ last ∷ []) new
pinned_more held pins new last pinned room long counted n inside =
    let is = pinned n (omega (arith, inside, long)) in
    let most = pins_most held n in
    let more = counted n (omega (arith, inside, long)) (omega (arith, is, most, room)) in
    let sum = sum_by-append (λ (h : HeldImage). one (is_base (node_no n) h.base)) held (last ∷ []) in
    omega (arith, is, more, sum)

not_found : (held : List HeldImage) (n : ℕ) → list_any (λ (h : Held). h.node.0 == n) (map held_of held) ≡ false → find (is_of n) held ≡ None
not_found [] n e = refl
not_found (h ∷ held) n e =
    let two = or_parts (h.node.0 == n) (list_any (λ (h : Held). h.node.0 == n) (map held_of held)) e in
    ap (λ b. cond b (Some h) (find (is_of n) held)) two.0 ∙ not_found held n two.1

-- a node whose image is found has a row
pub found_row : (held : List HeldImage) (images : List (Option HeldImage)) (node : NodeNo) → AreImaged held images → is_some (find (λ (h : Held). h.node.0 == node.0) (map held_of held)) ≡ true
    → is_some (get_or images node.0 None) ≡ true
found_row held images node imaged e = by (get_or images node.0 None) (ap is_some (shown_image held images node (get_or images node.0 None) imaged refl) ∙ e)
  where
    by : (o : Option HeldImage) → is_some (option_map held_of o) ≡ true → is_some o ≡ true
    by None h = h
    by (Some image) h = refl

-- no image of the last one's node was there
pub distinct_last : (held : List Held) (last : Held) → AreDistinct held → find (λ (h : Held). h.node.0 == last.node.0) held ≡ None → AreDistinct (held ++ last ∷ [])
distinct_last held last apart free = distinct_more held last apart (none_same held free)
  where
    none_same : (hs : List Held) → find (λ (h : Held). h.node.0 == last.node.0) hs ≡ None → All (λ h. (last.node.0 == h.node.0) ≡ false) hs
    none_same [] e = All-nil (λ (h : Held). (last.node.0 == h.node.0) ≡ false)
    none_same (x ∷ xs) e = by (x.node.0 == last.node.0) refl e (none_same xs)
      where
        by : (b : Bool) → (x.node.0 == last.node.0) ≡ b → cond b (Some x) (find (λ (h : Held). h.node.0 == last.node.0) xs) ≡ None
            → (find (λ (h : Held). h.node.0 == last.node.0) xs ≡ None → All (λ h. (last.node.0 == h.node.0) ≡ false) xs) → All (λ h. (last.node.0 == h.node.0) ≡ false) (x ∷ xs)
        by true s h rest = cc
        by false s h rest =
            All-cons (λ (h : Held). (last.node.0 == h.node.0) ≡ false) x xs (ne_eqb last.node.0 x.node.0 (λ same. eqb-false x.node.0 last.node.0 s (sym same))) (rest h)

-- the one image of a node is taken out
taken : (f : HeldImage → ℕ) (held : List HeldImage) (n : ℕ) (image : HeldImage) → AreDistinct (map held_of held) → find (is_of n) held ≡ Some image
    → sum_by f (filter (λ (h : HeldImage). not (h.node.0 == n)) held) + f image ≡ sum_by f held
taken f [] n image apart found = cc
taken f (h ∷ held) n image apart found = by (h.node.0 == n) refl found (taken f held n image apart.1) ∙ sym (sum_by-cons f h held)
  where
    by : (b : Bool) → (h.node.0 == n) ≡ b → cond b (Some h) (find (is_of n) held) ≡ Some image
        → (find (is_of n) held ≡ Some image → sum_by f (filter (λ (h : HeldImage). not (h.node.0 == n)) held) + f image ≡ sum_by f held)
        → sum_by f (cond (not b) (h ∷ filter (λ (h : HeldImage). not (h.node.0 == n)) held) (filter (λ (h : HeldImage). not (h.node.0 == n)) held)) + f image ≡ f h + sum_by f held
    by true e is rest =
        let same : h ≡ image = cc in
        let node = eqb-true h.node.0 n e in
        let others = ap (sum_by f) (without_none (is_of n) held (not_found held n (ap (λ k. list_any (λ (h : Held). h.node.0 == k) (map held_of held)) (sym node) ∙ apart.0))) in
        let number = ap f same in
        omega (arith, others, number)
    by false e is rest =
        let less = rest is in
        let sum = sum_by-cons f h (filter (λ (h : HeldImage). not (h.node.0 == n)) held) in
        omega (arith, less, sum)

pub pinned_less : (held : List HeldImage) (images : List (Option HeldImage)) (pins new : List ℕ) (node : NodeNo) (found : Option HeldImage) → AreDistinct (map held_of held)
    → AreImaged held images → ArePinned held pins → found ≡ get_or images node.0 None → is_some found ≡ true → length new ≡ length pins
    → ((n : ℕ) → n < length pins → one (is_base (node_no n) (option_and_then (λ (h : HeldImage). h.base) found)) ≤ get_or pins n 0
    → get_or new n 0 + one (is_base (node_no n) (option_and_then (λ (h : HeldImage). h.base) found)) ≡ get_or pins n 0)
    → ArePinned (filter (λ (h : HeldImage). not (h.node.0 == node.0)) held) new
pinned_less held images pins new node None apart imaged pinned read some long counted n inside = absurd (false≢true some)
pinned_less held images pins new node (Some image) apart imaged pinned read some long counted n inside =
    let is = pinned n (omega (arith, inside, long)) in
    let one_less = taken (λ (h : HeldImage). one (is_base (node_no n) h.base)) held node.0 image apart (sym (imaged node.0) ∙ sym read) in
    let less = counted n (omega (arith, inside, long)) (omega (arith, is, one_less)) in
    omega (arith, is, one_less, less)

-- ---- whether there is one

pub some_pinned : (held : List HeldImage) (n : ℕ) → list_any (λ (h : Held). is_base (node_no n) h.base) (map held_of held) ≡ nat_lt 0 (pins_in held n)
some_pinned [] n = refl
some_pinned (h ∷ held) n =
    by (is_base (node_no n) h.base) (some_pinned held n) ∙ ap (nat_lt 0) (sym (sum_by-cons (λ (h : HeldImage). one (is_base (node_no n) h.base)) h held))
  where
    by : (b : Bool) → list_any (λ (h : Held). is_base (node_no n) h.base) (map held_of held) ≡ nat_lt 0 (pins_in held n)
        → (b || list_any (λ (h : Held). is_base (node_no n) h.base) (map held_of held)) ≡ nat_lt 0 (one b + pins_in held n)
    by true rest = sym (lt-ltb 0 (1 + pins_in held n) (omega arith))
    by false rest = rest ∙ ap (nat_lt 0) (let same : pins_in held n ≡ 0 + pins_in held n = omega arith in same)
