-- A page that a run has touched stays touched.
use Rattle.std.proofs.Common.{◌≡◌, ℕ, zero, suc, ◌+◌, ◌-◌, ◌≤◌, true, List, ◌∙◌, ap, subst, arith}
use Rattle.std.proofs.lemmas.Bool.{or_left}
use Rattle.vf_base.specs.declared.run.Limits.{Limits}
use Rattle.vf_machine.specs.Machine.{Machine}
use Rattle.vf_machine.specs.Run.{words_at}
use Rattle.vf_machine.specs.Pages.{page_count, page_differs, is_touched, pages_touched}
use Rattle.vf_machine.specs.Laws.{TouchedPagesGrow}
use Rattle.vf_machine.proofs.Changes.{is_touched-suc}
use Rattle.vf_machine.proofs.SoloLemmas.{count_below-mono}

touched_after : {S : Type 0} (m : Machine S) (stim : List ℕ) (limits : Limits) (j n page : ℕ)
    → is_touched m stim limits j page ≡ true → is_touched m stim limits (j + n) page ≡ true
touched_after m stim limits j zero page h = ap (λ k. is_touched m stim limits k page) (let e : j + 0 ≡ j = omega arith in e) ∙ h
touched_after m stim limits j (suc n) page h =
    ap (λ k. is_touched m stim limits k page) (let e : j + suc n ≡ suc (j + n) = omega arith in e)
    ∙ is_touched-suc m stim limits (j + n) page
    ∙ or_left (is_touched m stim limits (j + n) page)
    (page_differs (words_at m stim limits (j + n)) (words_at m stim limits (suc (j + n))) page)
    (touched_after m stim limits j n page h)

pub touched_pages_grow_lem : {S : Type 0} (m : Machine S) → TouchedPagesGrow m
touched_pages_grow_lem m stim limits j k le =
    let e : j + (k - j) ≡ k = omega (arith, le) in
    subst (λ n. pages_touched m stim limits j ≤ pages_touched m stim limits n) e
    (count_below-mono (is_touched m stim limits j) (is_touched m stim limits (j + (k - j))) (page_count (m.words m.start))
    (λ page h. touched_after m stim limits j (k - j) page h))
