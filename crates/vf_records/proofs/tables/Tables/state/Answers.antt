use Rattle.std.proofs.Common.{◌≡◌, ◌∙◌, Some, None, slice_get, get_or, sym, ap, arith}
use Rattle.std.proofs.lemmas.Option.{slice_get_within}
use Rattle.vf_journal.specs.Records.{state_at, idle_state, is_ready}
use Rattle.vf_records.specs.declared.row.Progress.{Progress}
use Rattle.vf_records.specs.Account.{farm_of, solo_of}
use Rattle.vf_records.specs.Tables.{stage_of, records_of}
use Rattle.vf_records.proofs.EventLemmas.{placed_job, state_is}
use Rattle.vf_records.proofs.tables.Tables.state.Goals as goal

pub place-at-requires : goal.place-at-requires
place-at-requires c = (placed_job c.args.setup.now (solo_of c.args.setup.now).counts c.args.self.now c.requires.tables c.args.job c.requires.job).node

pub index-requires : goal.index-requires
index-requires c =
    let placed = placed_job c.args.setup.now (solo_of c.args.setup.now).counts c.args.self.now c.requires.tables c.args.job c.requires.job in
    omega (arith, placed.progress, c.place-at.ensures, c.args.self.now.progress.ok.0)

pub returns-in-Running : goal.returns-in-Running
returns-in-Running c =
    let s = c.args.setup.now in
    let t = c.args.self.now in
    let is = state_is s (solo_of s).counts t c.requires.tables c.args.job c.requires.job c.place-at.result c.place-at.ensures c.index.result.now c.index.ensures in
    let shape = λ (p : Progress). state_at (stage_of p (get_or t.told.items c.place-at.result None)) (is_ready (farm_of s) (records_of t) c.args.job) in
    sym (is ∙ ap shape c.in-Running.is)

pub returns-in-Over : goal.returns-in-Over
returns-in-Over c =
    let s = c.args.setup.now in
    let t = c.args.self.now in
    let is = state_is s (solo_of s).counts t c.requires.tables c.args.job c.requires.job c.place-at.result c.place-at.ensures c.index.result.now c.index.ensures in
    let shape = λ (p : Progress). state_at (stage_of p (get_or t.told.items c.place-at.result None)) (is_ready (farm_of s) (records_of t) c.args.job) in
    sym (is ∙ ap shape c.in-Over.is)

pub is_ready_at-requires-clause-at : goal.is_ready_at-requires-clause-at
is_ready_at-requires-clause-at c =
    let s = c.args.setup.now in
    let t = c.args.self.now in
    let placed = placed_job s (solo_of s).counts t c.requires.tables c.args.job c.requires.job in
    let here : slice_get t.layout.jobs.items c.place-at.result ≡ Some c.args.job = ap (slice_get t.layout.jobs.items) c.place-at.ensures ∙ placed.at in
    slice_get_within t.layout.jobs.items c.place-at.result c.args.job here

pub returns-then-is_ready_at : goal.returns-then-is_ready_at
returns-then-is_ready_at c =
    let s = c.args.setup.now in
    let t = c.args.self.now in
    let is = state_is s (solo_of s).counts t c.requires.tables c.args.job c.requires.job c.place-at.result c.place-at.ensures c.index.result.now c.index.ensures in
    let shape = λ (p : Progress). state_at (stage_of p (get_or t.told.items c.place-at.result None)) (is_ready (farm_of s) (records_of t) c.args.job) in
    let placed = placed_job s (solo_of s).counts t c.requires.tables c.args.job c.requires.job in
    let here : slice_get t.layout.jobs.items c.place-at.result ≡ Some c.args.job = ap (slice_get t.layout.jobs.items) c.place-at.ensures ∙ placed.at in
    sym (is ∙ ap shape c.in-Idle.is ∙ ap idle_state (sym (c.is_ready_at.ensures c.args.job here) ∙ c.if-is_ready_at.true))

pub returns-else-is_ready_at : goal.returns-else-is_ready_at
returns-else-is_ready_at c =
    let s = c.args.setup.now in
    let t = c.args.self.now in
    let is = state_is s (solo_of s).counts t c.requires.tables c.args.job c.requires.job c.place-at.result c.place-at.ensures c.index.result.now c.index.ensures in
    let shape = λ (p : Progress). state_at (stage_of p (get_or t.told.items c.place-at.result None)) (is_ready (farm_of s) (records_of t) c.args.job) in
    let placed = placed_job s (solo_of s).counts t c.requires.tables c.args.job c.requires.job in
    let here : slice_get t.layout.jobs.items c.place-at.result ≡ Some c.args.job = ap (slice_get t.layout.jobs.items) c.place-at.ensures ∙ placed.at in
    sym (is ∙ ap shape c.in-Idle.is ∙ ap idle_state (sym (c.is_ready_at.ensures c.args.job here) ∙ c.if-is_ready_at.false))
