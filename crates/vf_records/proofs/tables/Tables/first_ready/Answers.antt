use Rattle.std.proofs.Common.{◌≡◌, ◌<◌, ◌+◌, ◌∙◌, if◌then◌else◌, Some, length, slice_get, drop, refl, sym, ap, arith}
use Rattle.std.specs.List.{find}
use Rattle.std.proofs.lemmas.Option.{slice_get_read}
use Rattle.vf_journal.specs.Records.{is_ready}
use Rattle.vf_records.specs.Account.{farm_of, solo_of}
use Rattle.vf_records.specs.Tables.{records_of}
use Rattle.vf_records.proofs.TableLemmas.{listed_all}
use Rattle.vf_records.proofs.ReadyLemmas.{find_after, unready_before, find_here, find_past, standing}
use Rattle.vf_records.proofs.tables.Tables.first_ready.Goals as goal

pub returns-then-is_ready_at : goal.returns-then-is_ready_at
returns-then-is_ready_at c =
    let t = c.args.self.now in
    let listed = t.layout.jobs.items in
    let job = c.index.result.now in
    let test = is_ready (farm_of c.args.setup.now) (records_of t) in
    let here : slice_get listed c.loop-at.at ≡ Some job = slice_get_read listed (length listed) c.loop-at.at job refl (omega arith) c.index.ensures in
    sym (ap (find test) (sym (listed_all c.args.setup.now.plan listed t.layout.places.items c.requires.layout)) ∙ c.loop-at.invariant
    ∙ find_here test listed c.loop-at.at job here
    ∙ ap (λ b. if b then Some job else find test (drop (c.loop-at.at + 1) listed)) (sym (c.is_ready_at.ensures job here) ∙ c.if-is_ready_at.true))

pub loop-at-preserved : goal.loop-at-preserved
loop-at-preserved c =
    let t = c.args.self.now in
    let listed = t.layout.jobs.items in
    let test = is_ready (farm_of c.args.setup.now) (records_of t) in
    let less : c.loop-at.at < length listed = omega arith in
    let stands = standing listed c.loop-at.at less in
    c.loop-at.invariant ∙ find_here test listed c.loop-at.at stands.0 stands.1
    ∙ ap (λ b. if b then Some stands.0 else find test (drop (c.loop-at.at + 1) listed)) (sym (c.is_ready_at.ensures stands.0 stands.1) ∙ c.if-is_ready_at.false)

pub returns : goal.returns
returns c =
    let t = c.args.self.now in
    let listed = t.layout.jobs.items in
    let test = is_ready (farm_of c.args.setup.now) (records_of t) in
    sym (ap (find test) (sym (listed_all c.args.setup.now.plan listed t.layout.places.items c.requires.layout)) ∙ c.loop-at.invariant
    ∙ find_past test listed c.loop-at.at (omega arith))

pub loop-at-init : goal.loop-at-init
loop-at-init c =
    find_after (is_ready (farm_of c.args.setup.now) (records_of c.args.self.now)) c.args.self.now.layout.jobs.items c.args.self.now.first
    (unready_before c.args.setup.now (solo_of c.args.setup.now).counts c.args.self.now c.requires)
