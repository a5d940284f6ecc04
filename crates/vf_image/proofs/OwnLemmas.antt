-- How many pages an image has of its own.
use Rattle.std.proofs.Common.{◌≡◌, ℕ, Some, not, length, sym, ap, subst, ◌∙◌}
use Rattle.std.proofs.lemmas.Bool.{and_parts}
use Rattle.vf_base.specs.declared.names.Job.TheVariants.{Reach}
use Rattle.vf_base.specs.declared.names.NodeNo.{NodeNo}
use Rattle.vf_jobs.specs.Setup.{Conditions, IsSetup}
use Rattle.vf_pages.specs.Pages.{Pages, IsSorted}
use Rattle.vf_image.specs.Runs.{AreSound, touches}
use Rattle.vf_image.specs.Images.{Checkpoint, IsImage, IsHeldBy, full, over, StandsOver, IsOwnCount, is_same_in, is_own, own_over}
use Rattle.vf_image.proofs.CountLemmas.{touched_within, entries_counted, pages_counted}
use Rattle.vf_image.proofs.BaseLemmas.{turn_or}

over_counted : (c : Conditions) (node base : NodeNo) (since t : ℕ) (pages : Pages) → IsSetup c → AreSound c (Reach node) t → StandsOver c node base since t pages → IsSorted pages.pages
    → length pages.pages ≡ own_over c node base since t
over_counted c node base since t pages kept sound stands sorted =
    entries_counted c pages (is_own c node base since t) kept sorted stands.exact
    (λ page on. touched_within c (Reach node) t page sound (and_parts (touches c (Reach node) t page) (not (is_same_in c node base since t page)) on).0)

pub own_counted : (i : Checkpoint) → IsImage i → IsSorted i.pages.pages → IsOwnCount i i.base (length i.pages.pages)
own_counted i kept sorted = by kept.held
  where
    by : IsHeldBy i → IsOwnCount i i.base (length i.pages.pages)
    by (full none stands) =
        subst (λ base. IsOwnCount i base (length i.pages.pages)) (sym none) (pages_counted i.setup (Reach i.node) i.header.turns i.pages kept.setup kept.sound stands sorted)
    by (over base since is under stands) =
        subst (λ base. IsOwnCount i base (length i.pages.pages)) (sym is) counts
      where
        counts : IsOwnCount i (Some base) (length i.pages.pages)
        counts at saved =
            let same : Some since ≡ Some at = sym under.saved ∙ saved in
            let turn : since ≡ at = ap (turn_or since) same in
            over_counted i.setup i.node base since i.header.turns i.pages kept.setup kept.sound stands sorted
            ∙ ap (λ n. own_over i.setup i.node base n i.header.turns) turn
