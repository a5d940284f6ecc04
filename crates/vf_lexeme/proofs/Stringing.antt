-- The text of a string, byte by byte.
use Rattle.std.proofs.Common.{◌≡◌, ◌≢◌, ℕ, zero, suc, ◌+◌, ◌-◌, ◌<◌, ◌≤◌, ◌&&◌, Bool, true, false, not, eqb, cond, List, [], ◌∷◌, ◌++◌, length, get_or, take, drop, Option, Some, None, refl, ap, ap₂, sym, ◌∙◌, append_assoc, append-nil, add-one, drop-cons, arith}
use Rattle.std.specs.Option.{option_map}
use Rattle.std.proofs.lemmas.Bool.{ne_eqb, eq-eqb}
use Rattle.std.proofs.lemmas.List.{drop_all, take_all, take_more, length-drop}
use Rattle.vf_lexeme.specs.Reading.{inside_at, piece, decoded}

-- ---- where the string ends

inside_step : (e : Bool) (text : List ℕ) (at : ℕ) → at < length text → inside_at e (drop at text)
    ≡ cond (eqb (get_or text at 0) 10) None (cond (not e && eqb (get_or text at 0) 34) (Some ([], drop (at + 1) text))
    (option_map (λ (p : List ℕ × List ℕ). (get_or text at 0 ∷ p.0, p.1))
    (inside_at (not e && eqb (get_or text at 0) 92) (drop (at + 1) text))))
unfolding inside_at
inside_step e text at h = ap (inside_at e) (drop-cons text at 0 h) ∙ rw (add-one at) refl

-- what stands in front is joined
abbrev pub after_front : List ℕ → List ℕ × List ℕ → List ℕ × List ℕ
after_front front p = (front ++ p.0, p.1)

joined : (front : List ℕ) (b : ℕ) (o : Option (List ℕ × List ℕ))
    → option_map (after_front front) (option_map (λ (p : List ℕ × List ℕ). (b ∷ p.0, p.1)) o) ≡ option_map
    (after_front (front ++ b ∷ [])) o
joined front b None = refl
joined front b (Some p) = ap (λ (t : List ℕ). Some (t, p.1)) (sym (append_assoc front (b ∷ []) p.0))

pub inside_breaks : (e : Bool) (text : List ℕ) (at : ℕ) (whole : Option (List ℕ × List ℕ)) → at < length text
    → get_or text at 0 ≡ 10
    → whole ≡ option_map (after_front (take at text)) (inside_at e (drop at text)) → None ≡ whole
inside_breaks e text at whole h is so_far =
    let broken : eqb (get_or text at 0) 10 ≡ true = eq-eqb (get_or text at 0) 10 is in
    let step : inside_at e (drop at text) ≡ None = inside_step e text at h ∙ rw broken refl in
    sym (so_far ∙ rw step refl)

pub inside_closes : (e : Bool) (text : List ℕ) (at : ℕ) (whole : Option (List ℕ × List ℕ)) → at < length text
    → get_or text at 0 ≢ 10
    → (not e && eqb (get_or text at 0) 34) ≡ true → whole ≡ option_map (after_front (take at text)) (inside_at e (drop at text))
    → Some (take at text, take (length text - (at + 1)) (drop (at + 1) text)) ≡ whole
inside_closes e text at whole h other closed so_far =
    let step : inside_at e (drop at text) ≡ Some ([], drop (at + 1) text) = inside_step e text at h
    ∙ rw (ne_eqb (get_or text at 0) 10 other, closed) refl in
    let rest : take (length text - (at + 1)) (drop (at + 1) text) ≡ drop (at + 1) text =
    take_all _ _ (omega (arith, length-drop (at + 1) text)) in
    let front : take at text ++ [] ≡ take at text = append-nil (take at text) in
    sym (so_far ∙ rw step (ap₂ (λ (x y : List ℕ). Some (x, y)) front (sym rest)))

pub inside_goes : (e : Bool) (text : List ℕ) (at : ℕ) (whole : Option (List ℕ × List ℕ)) → at < length text → get_or text at 0 ≢ 10
    → (not e && eqb (get_or text at 0) 34) ≡ false → whole ≡ option_map (after_front (take at text)) (inside_at e (drop at text))
    → whole ≡ option_map (after_front (take (at + 1) text)) (inside_at (not e && eqb (get_or text at 0) 92) (drop (at + 1) text))
inside_goes e text at whole h other still so_far =
    let b = get_or text at 0 in
    let more = inside_at (not e && eqb b 92) (drop (at + 1) text) in
    let step : inside_at e (drop at text) ≡ option_map (λ (p : List ℕ × List ℕ). (b ∷ p.0, p.1)) more = inside_step e text at h
    ∙ rw (ne_eqb b 10 other, still) refl in
    let front : take at text ++ b ∷ [] ≡ take (at + 1) text = sym (take_more text at 0 h) in
    so_far ∙ ap (option_map (after_front (take at text))) step ∙ joined (take at text) b more
    ∙ ap (λ (t : List ℕ). option_map (after_front t) more) front

pub inside_lacks : (e : Bool) (text : List ℕ) (at : ℕ) (whole : Option (List ℕ × List ℕ)) → length text ≤ at
    → whole ≡ option_map (after_front (take at text)) (inside_at e (drop at text)) → None ≡ whole
unfolding inside_at
inside_lacks e text at whole h so_far = sym (so_far ∙ rw (drop_all at text h) refl)

-- ---- what it stands for

pub skip : (k : ℕ) (text : List ℕ) → decoded k text ≡ decoded 0 (drop k text)
unfolding decoded
skip zero text = refl
skip (suc k) [] = refl
skip (suc k) (b ∷ rest) = skip k rest

pub decoded_more : (out text more : List ℕ) (first byte count : ℕ) (whole : List ℕ) → text ≡ first ∷ more
    → byte ≡ (piece first more).0 → count ≡ (piece first more).1
    → whole ≡ out ++ decoded 0 text → whole ≡ (out ++ byte ∷ []) ++ decoded 0 (drop count more)
unfolding decoded
decoded_more out text more first byte count whole e b n so_far =
    let step : decoded 0 text ≡ byte ∷ decoded 0 (drop count more) =
    rw (e, b, n) (ap (λ (t : List ℕ). (piece first more).0 ∷ t) (skip (piece first more).1 more)) in
    so_far ∙ ap (λ (t : List ℕ). out ++ t) step ∙ sym (append_assoc out (byte ∷ []) (decoded 0 (drop count more)))

pub decoded_end : (out text whole : List ℕ) → text ≡ [] → whole ≡ out ++ decoded 0 text → whole ≡ out
unfolding decoded
decoded_end out text whole e so_far = so_far ∙ rw e (append-nil out)
