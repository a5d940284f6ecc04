use Rattle.std.proofs.Common.{◌≡◌, ◌<◌, ◌∙◌, ◌&&◌, Some, length, slice_get, get_or, unwrap_or, refl, sym, ap, subst}
use Rattle.std.proofs.lemmas.Option.{slice_get_read}
use Rattle.vf_jobs.specs.Jobs as jobs
use Rattle.vf_jobs.specs.Jobs.{node_of}
use Rattle.vf_jobs.specs.Setup.{Conditions}
use Rattle.vf_journal.specs.declared.entry.Kind.TheVariants.{Unknown}
use Rattle.vf_journal.specs.Records.{is_known}
use Rattle.vf_records.specs.Account.{solo_of}
use Rattle.vf_records.proofs.ReadyLemmas.{ready_at}
use Rattle.vf_records.proofs.tables.Tables.is_ready_at.Goals as goal

pub returns-then-not-is_idle_at : goal.returns-then-not-is_idle_at
returns-then-not-is_idle_at c = λ job e.
    sym (ready_at c.args.setup.now (solo_of c.args.setup.now).counts c.args.self.now c.requires.tables c.args.at job e
    ∙ ap (λ b. b && jobs.is_ready c.args.setup.now.plan (λ n. is_known (get_or c.args.self.now.kinds.items n Unknown)) job) (sym c.is_idle_at.ensures ∙ c.if-not-is_idle_at.true))

pub is_free-requires-clause-node : goal.is_free-requires-clause-node
is_free-requires-clause-node c =
    let listed = c.args.self.now.layout.jobs.items in
    let here : slice_get listed c.args.at ≡ Some c.index.result.now = slice_get_read listed (length listed) c.args.at c.index.result.now refl c.requires.at c.index.ensures in
    let less = c.requires.tables.layout.within c.args.at c.index.result.now here in
    subst (λ n. node_of c.index.result.now < n) (ap (λ (s : Conditions). length s.plan) (sym c.setup.view_is)) less

pub returns : goal.returns
returns c = λ job e.
    let listed = c.args.self.now.layout.jobs.items in
    let here : slice_get listed c.args.at ≡ Some c.index.result.now = slice_get_read listed (length listed) c.args.at c.index.result.now refl c.requires.at c.index.ensures in
    let same : c.index.result.now ≡ job = ap (λ o. unwrap_or o job) (sym here ∙ e) in
    sym (ready_at c.args.setup.now (solo_of c.args.setup.now).counts c.args.self.now c.requires.tables c.args.at job e
    ∙ ap (λ b. b && jobs.is_ready c.args.setup.now.plan (λ n. is_known (get_or c.args.self.now.kinds.items n Unknown)) job) (sym c.is_idle_at.ensures ∙ c.if-not-is_idle_at.false)
    ∙ ap (jobs.is_ready c.args.setup.now.plan (λ n. is_known (get_or c.args.self.now.kinds.items n Unknown))) (sym same)
    ∙ sym (c.is_free.ensures ∙ ap (λ (s : Conditions). jobs.is_ready s.plan (λ n. is_known (get_or c.args.self.now.kinds.items n Unknown)) c.index.result.now) c.setup.view_is))
