use Rattle.std.proofs.Common.{◌≡◌, ◌∙◌, true, false, ◌&&◌, not, Some, length, slice_get, unwrap_or, refl, sym, ap, ap₂}
use Rattle.std.proofs.lemmas.Option.{slice_get_read}
use Rattle.vf_jobs.specs.Jobs.{node_of}
use Rattle.vf_jobs.specs.Limits.{limits_of}
use Rattle.vf_jobs.specs.Setup.{Conditions}
use Rattle.vf_jobs.specs.Subtree.{is_below}
use Rattle.vf_journal.specs.Records.{is_over}
use Rattle.vf_records.specs.Account.{solo_of}
use Rattle.vf_records.specs.Spreads.{fits_with}
use Rattle.vf_records.specs.Tables.{records_of}
use Rattle.vf_records.proofs.TableLemmas.{is_job_at}
use Rattle.vf_records.proofs.ReadyLemmas.{over_at}
use Rattle.vf_records.proofs.tables.Tables.is_copied.Goals as goal

pub returns : goal.returns
returns c = λ job e.
    let s = c.args.setup.now in
    let t = c.args.self.now in
    let listed = t.layout.jobs.items in
    let found = c.index-job.result.now in
    let here : slice_get listed c.args.at ≡ Some found = slice_get_read listed (length listed) c.args.at found refl c.requires.at c.index-job.ensures in
    let same : found ≡ job = ap (λ o. unwrap_or o job) (sym here ∙ e) in
    let n = c.args.spread.node.0 in
    let is = is_job_at s.plan listed t.layout.places.items c.requires.tables.layout c.args.at job e in
    let below : is_below s.plan n (node_of job) ≡ true =
    sym (ap (λ (s : Conditions). is_below s.plan n (node_of job)) c.setup.view_is)
    ∙ ap (is_below c.setup.inside.plan n) (sym (c.node_of.ensures ∙ ap node_of same)) ∙ sym c.is_below.ensures ∙ c.if-not-is_below.false in
    let left : is_over ((records_of t).stages job) ≡ false =
    over_at s (solo_of s).counts t c.requires.tables c.args.at job e ∙ sym c.is_over_at.ensures ∙ c.if-is_over_at.false in
    c.fits.ensures ∙ ap (fits_with c.args.spread.reached) (c.limits_of.ensures.limits ∙ ap (limits_of s.limits s.plan) same)
    ∙ sym (ap₂ (λ a b. a && (b && (not (is_over ((records_of t).stages job)) && fits_with c.args.spread.reached (limits_of s.limits s.plan job)))) is below
    ∙ ap (λ b. not b && fits_with c.args.spread.reached (limits_of s.limits s.plan job)) left)
