use Rattle.std.proofs.Common.{◌∙◌, ap₂}
use Rattle.vf_jobs.specs.Jobs.{jobs}
use Rattle.vf_jobs.specs.Setup.{Conditions}
use Rattle.vf_journal.specs.declared.entry.Entry.TheVariants.{Start}
use Rattle.vf_journal.specs.Records.{Records, is_ready}
use Rattle.vf_journal.specs.Effects.{origin_of}
use Rattle.vf_records.specs.Account.{farm_of, solo_of, records_in, IsLawful}
use Rattle.vf_records.proofs.ReadyLemmas.{found_passes}
use Rattle.vf_records.proofs.RecordLemmas.{setup_is, records_is, made}
use Rattle.vf_records.proofs.records.Records.start.Goals as goal

pub begin-requires-clause-ready : goal.begin-requires-clause-ready
begin-requires-clause-ready c =
    let a = c.args.self.now in
    ap₂ (λ (s : Conditions) (r : Records). is_ready (farm_of s) r c.args.job) (setup_is c.self.inside a c.self.view_is c.deref.result.now c.deref.ensures) (records_is c.self.inside a c.self.view_is c.self.invariant)
    ∙ found_passes (is_ready (farm_of a.setup) (records_in a)) (jobs a.setup.plan) c.args.job c.requires

pub returns-clause-origin : goal.returns-clause-origin
returns-clause-origin c =
    let a = c.args.self.now in
    c.begin.ensures.origin
    ∙ ap₂ (λ (s : Conditions) (r : Records). origin_of (farm_of s) (solo_of s) r c.args.job) (setup_is c.self.inside a c.self.view_is c.deref.result.now c.deref.ensures) (records_is c.self.inside a c.self.view_is c.self.invariant)

pub invariant_of-self : goal.invariant_of-self
invariant_of-self c =
    let a = c.args.self.now in
    let may : IsLawful a (Start c.args.job c.begin.result) = record {
      guard = (
        found_passes (is_ready (farm_of a.setup) (records_in a)) (jobs a.setup.plan) c.args.job c.requires,
        c.begin.ensures.origin
            ∙ ap₂ (λ (s : Conditions) (r : Records). origin_of (farm_of s) (solo_of s) r c.args.job) (setup_is c.self.inside a c.self.view_is c.deref.result.now c.deref.ensures) (records_is c.self.inside a c.self.view_is c.self.invariant),
      );
      chosen = c.requires;
      solo = tt;
    } in
    (made c.self.inside c.args.self.now c.self.view_is c.self.invariant (Start c.args.job c.begin.result) c.deref.result.now c.deref.ensures c.begin.new.self c.begin.ensures.records c.begin.ensures.journal c.begin.ensures.tables may).kept

pub returns-clause-records : goal.returns-clause-records
returns-clause-records c =
    let a = c.args.self.now in
    let may : IsLawful a (Start c.args.job c.begin.result) = record {
      guard = (
        found_passes (is_ready (farm_of a.setup) (records_in a)) (jobs a.setup.plan) c.args.job c.requires,
        c.begin.ensures.origin
            ∙ ap₂ (λ (s : Conditions) (r : Records). origin_of (farm_of s) (solo_of s) r c.args.job) (setup_is c.self.inside a c.self.view_is c.deref.result.now c.deref.ensures) (records_is c.self.inside a c.self.view_is c.self.invariant),
      );
      chosen = c.requires;
      solo = tt;
    } in
    (made c.self.inside c.args.self.now c.self.view_is c.self.invariant (Start c.args.job c.begin.result) c.deref.result.now c.deref.ensures c.begin.new.self c.begin.ensures.records c.begin.ensures.journal c.begin.ensures.tables may).records
