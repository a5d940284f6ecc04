-- One piece appended after another.
use Rattle.std.proofs.Common.{◌≡◌, ℕ, ◌+◌, List, ◌++◌, take, drop, refl, sym, ap, ◌∙◌, append_assoc}
use Rattle.std.specs.Prelude.{Option, Some, None, option_map}
use Rattle.std.proofs.Math.Seq.{take-add}
use Rattle.vf_ports.specs.Sink.{Appends}

both : (a : Option (List ℕ)) (xs ys : List ℕ) → option_map (λ earlier. earlier ++ ys) (option_map (λ earlier. earlier ++ xs) a) ≡ option_map (λ earlier. earlier ++ (xs ++ ys)) a
both None xs ys = refl
both (Some e) xs ys = ap Some (append_assoc e xs ys)

-- the first n of the bytes, and then the first m of the rest
pub appends_next : (a b c : Option (List ℕ)) (bytes rest : List ℕ) (n m : ℕ) → Appends a b (take n bytes) → rest ≡ drop n bytes → Appends b c (take m rest) → Appends a c (take (n + m) bytes)
appends_next a b c bytes rest n m first is next =
    let joined : take n bytes ++ take m rest ≡ take (n + m) bytes = ap (λ r. take n bytes ++ take m r) is ∙ sym (take-add n m bytes) in
    next
    ∙ ap (λ o. option_map (λ earlier. earlier ++ take m rest) o) first
    ∙ both a (take n bytes) (take m rest)
    ∙ ap (λ xs. option_map (λ earlier. earlier ++ xs) a) joined
