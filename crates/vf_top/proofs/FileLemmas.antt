-- No command changes what files hold.
use Rattle.std.proofs.Common.{◌≡◌, ℕ, List, ap, inl, inr}
use Rattle.vf_ports.specs.Shelf.{ShelfState}
use Rattle.vf_top.specs.declared.refusal.What.TheVariants.{Design, Plan}
use Rattle.vf_top.specs.declared.refusal.Refusal.{Refusal}
use Rattle.vf_top.specs.declared.refusal.Refusal.TheVariants.{WrongWords, Failed, TooLong, DesignNotBuilt, NoTop, WrongPlan, NoTest, Write, Memory}
use Rattle.vf_top.specs.Answer.{World, Cause, ShelfAfter, Answers}

kept_by : (words : List (List ℕ)) (before after : World) (refusal : Refusal) → Cause words before after refusal → ShelfAfter before.shelf after.shelf refusal
    → after.shelf.holds ≡ before.shelf.holds
kept_by words before after (Failed Design) cause shelf = cause.3.holds
kept_by words before after (Failed Plan) cause shelf = cause.4.holds
kept_by words before after (WrongWords fault) cause shelf = ap (λ (s : ShelfState). s.holds) shelf
kept_by words before after (TooLong what) cause shelf = ap (λ (s : ShelfState). s.holds) shelf
kept_by words before after DesignNotBuilt cause shelf = ap (λ (s : ShelfState). s.holds) shelf
kept_by words before after NoTop cause shelf = ap (λ (s : ShelfState). s.holds) shelf
kept_by words before after (WrongPlan fault) cause shelf = ap (λ (s : ShelfState). s.holds) shelf
kept_by words before after (NoTest name) cause shelf = ap (λ (s : ShelfState). s.holds) shelf
kept_by words before after Write cause shelf = ap (λ (s : ShelfState). s.holds) shelf
kept_by words before after Memory cause shelf = ap (λ (s : ShelfState). s.holds) shelf

pub files_kept : (words : List (List ℕ)) (before after : World) (status : ℕ) → Answers words before after status → after.shelf.holds ≡ before.shelf.holds
files_kept words before after status (inl done) = ap (λ (s : ShelfState). s.holds) done.shelf
files_kept words before after status (inr refused) = kept_by words before after refused.refusal refused.cause refused.shelf
