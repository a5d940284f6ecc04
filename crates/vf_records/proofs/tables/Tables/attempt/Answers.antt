use Rattle.std.proofs.Common.{◌∙◌, None, get_or, sym, ap, arith}
use Rattle.vf_records.specs.declared.row.Progress.{Progress}
use Rattle.vf_records.specs.Account.{solo_of, attempt_at}
use Rattle.vf_records.specs.Tables.{stage_of}
use Rattle.vf_records.proofs.EventLemmas.{placed_job, attempt_is}
use Rattle.vf_records.proofs.tables.Tables.attempt.Goals as goal

pub place-at-requires : goal.place-at-requires
place-at-requires c = (placed_job c.args.setup.now (solo_of c.args.setup.now).counts c.args.self.now c.requires.tables c.args.job c.requires.job).node

pub index-requires : goal.index-requires
index-requires c =
    let placed = placed_job c.args.setup.now (solo_of c.args.setup.now).counts c.args.self.now c.requires.tables c.args.job c.requires.job in
    omega (arith, placed.progress, c.place-at.ensures, c.args.self.now.progress.ok.0)

pub returns-in-Running : goal.returns-in-Running
returns-in-Running c =
    let s = c.args.setup.now in
    let t = c.args.self.now in
    let is = attempt_is s (solo_of s).counts t c.requires.tables c.args.job c.requires.job c.place-at.result c.place-at.ensures c.index.result.now c.index.ensures in
    sym (is ∙ ap (λ (p : Progress). attempt_at (stage_of p (get_or t.told.items c.place-at.result None))) c.in-Running.is)

pub returns-in-Idle : goal.returns-in-Idle
returns-in-Idle c =
    let s = c.args.setup.now in
    let t = c.args.self.now in
    let is = attempt_is s (solo_of s).counts t c.requires.tables c.args.job c.requires.job c.place-at.result c.place-at.ensures c.index.result.now c.index.ensures in
    sym (is ∙ ap (λ (p : Progress). attempt_at (stage_of p (get_or t.told.items c.place-at.result None))) c.in-Idle.is)

pub returns-in-Over : goal.returns-in-Over
returns-in-Over c =
    let s = c.args.setup.now in
    let t = c.args.self.now in
    let is = attempt_is s (solo_of s).counts t c.requires.tables c.args.job c.requires.job c.place-at.result c.place-at.ensures c.index.result.now c.index.ensures in
    sym (is ∙ ap (λ (p : Progress). attempt_at (stage_of p (get_or t.told.items c.place-at.result None))) c.in-Over.is)
