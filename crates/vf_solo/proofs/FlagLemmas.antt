-- Flags of touched pages, set one at a time.
use Rattle.std.proofs.Common.{◌≡◌, ℕ, zero, suc, ◌+◌, ◌<◌, ◌≤◌, Bool, true, false, cond, List, length, replicate, refl, sym, ◌∙◌, ap, arith, slice_set}
use Rattle.std.proofs.lemmas.List.{get_or-set_same, get_or-set_other, length-set, get_or-replicate, length-replicate}
use Rattle.vf_machine.specs.Search.{count_below}
use Rattle.vf_machine.proofs.CallerLemmas.{count_below-le, count_below-more, NoneBelow}
use Rattle.vf_solo.specs.Flags.{flag_at, flags_set}

pub count_below-none : (p : ℕ → Bool) (n : ℕ) → NoneBelow p n → count_below p n ≡ 0
unfolding count_below
count_below-none p zero none = refl
count_below-none p (suc n) none =
    let before = count_below-none p n (λ j below. none j (omega arith)) in
    ap (λ b. count_below p n + cond b 1 0) (none n (omega arith)) ∙ omega (arith, before)

pub flags_set-none : (n : ℕ) → flags_set (replicate n false) ≡ 0
flags_set-none n = count_below-none (flag_at (replicate n false)) (length (replicate n false)) (λ j below. get_or-replicate n j false false (omega (arith, below, length-replicate n false)))

pub flags_set-one : (flags : List Bool) (page : ℕ) → page < length flags → flag_at flags page ≡ false → flags_set (slice_set flags page true) ≡ flags_set flags + 1
flags_set-one flags page within off =
    ap (count_below (flag_at (slice_set flags page true))) (length-set flags page true)
    ∙ count_below-more (flag_at flags) (flag_at (slice_set flags page true)) (length flags) page within off (get_or-set_same flags page true false within)
    (λ j other. sym (get_or-set_other flags page j true false other))

pub flags_set-le : (flags : List Bool) → flags_set flags ≤ length flags
flags_set-le flags = count_below-le (flag_at flags) (length flags)
