use Rattle.std.proofs.Common.{◌≡◌, ◌∙◌, ◌++◌, ◌∷◌, Option, Some, option_map, sym, ap, ap₂}
use Rattle.vf_journal.specs.declared.entry.Entry.TheVariants.{End}
use Rattle.vf_base.specs.declared.run.Outcome.{Outcome}
use Rattle.vf_jobs.specs.Setup.{Conditions}
use Rattle.vf_journal.specs.declared.entry.Kind.TheVariants as kinds
use Rattle.vf_journal.specs.declared.entry.Told.TheVariants as told
use Rattle.vf_journal.specs.Effects as effects
use Rattle.vf_journal.specs.Effects.{with_over, with_copies, without_unneeded, copies, retirings, spread_of}
use Rattle.vf_records.specs.declared.spread.Reached.TheVariants as reached
use Rattle.vf_records.specs.Account.{farm_of, solo_of}
use Rattle.vf_records.specs.Spreads.{spread_seen}
use Rattle.vf_records.specs.Tables.{records_of}
use Rattle.vf_records.proofs.RecordLemmas.{setup_is, ended_running, spread_end, spread_node, serve_at, made}
use Rattle.vf_records.proofs.records.Records.end.Goals as goal

pub settle-requires-clause-job : goal.settle-requires-clause-job
settle-requires-clause-job c = (ended_running c.self.inside c.args.self.now c.self.view_is c.self.invariant c.deref.result.now c.deref.ensures c.args.job c.requires.lawful.guard.0 c.requires.lawful.guard.1).is

pub settle-requires-clause-left : goal.settle-requires-clause-left
settle-requires-clause-left c = (ended_running c.self.inside c.args.self.now c.self.view_is c.self.invariant c.deref.result.now c.deref.ensures c.args.job c.requires.lawful.guard.0 c.requires.lawful.guard.1).left

pub settle-requires-clause-spread : goal.settle-requires-clause-spread
settle-requires-clause-spread c = spread_node c.args.job c.spread_of-spread.result kinds.Ended (reached.Ending c.args.counts) c.spread_of-spread.ensures

pub settle-requires-clause-serve : goal.settle-requires-clause-serve
settle-requires-clause-serve c = serve_at c.self.inside c.self.invariant c.deref.result.now c.deref.ensures

pub invariant_of-self : goal.invariant_of-self
invariant_of-self c =
    let d = c.deref.result.now in
    let f = farm_of d in
    let job = c.args.job in
    let r = records_of c.self.inside.tables in
    let js = c.self.inside.tables.journal.items in
    let is = setup_is c.self.inside c.args.self.now c.self.view_is d c.deref.ensures in
    let spreads : option_map (spread_seen d) c.spread_of-spread.result ≡ spread_of f (solo_of d) (End job c.args.counts.turns) =
    ap (option_map (spread_seen d)) c.spread_of-spread.ensures
    ∙ spread_end d job c.args.counts c.args.counts.turns (c.requires.counts ∙ ap (λ (s : Conditions). (solo_of s).ending job) (sym is)) in
    let outcome : c.args.outcome ≡ (solo_of d).outcome job = c.requires.outcome ∙ ap (λ (s : Conditions). (solo_of s).outcome job) (sym is) in
    (made c.self.inside c.args.self.now c.self.view_is c.self.invariant (End c.args.job c.args.counts.turns) c.deref.result.now c.deref.ensures c.settle.new.self (c.settle.ensures.records ∙ ap₂ (λ (o : Option effects.Spread) (x : Outcome). without_unneeded f (with_copies f o (with_over job (Some (told.Own x)) kinds.Ended r))) spreads outcome) (c.settle.ensures.journal ∙ ap₂ (λ (o : Option effects.Spread) (x : Outcome). js ++ End job c.args.counts.turns ∷ (copies f o (with_over job (Some (told.Own x)) kinds.Ended r) ++ retirings f (with_copies f o (with_over job (Some (told.Own x)) kinds.Ended r)))) spreads outcome) c.settle.ensures.tables c.requires.lawful).kept

pub returns-clause-journal : goal.returns-clause-journal
returns-clause-journal c =
    let d = c.deref.result.now in
    let f = farm_of d in
    let job = c.args.job in
    let r = records_of c.self.inside.tables in
    let js = c.self.inside.tables.journal.items in
    let is = setup_is c.self.inside c.args.self.now c.self.view_is d c.deref.ensures in
    let spreads : option_map (spread_seen d) c.spread_of-spread.result ≡ spread_of f (solo_of d) (End job c.args.counts.turns) =
    ap (option_map (spread_seen d)) c.spread_of-spread.ensures
    ∙ spread_end d job c.args.counts c.args.counts.turns (c.requires.counts ∙ ap (λ (s : Conditions). (solo_of s).ending job) (sym is)) in
    let outcome : c.args.outcome ≡ (solo_of d).outcome job = c.requires.outcome ∙ ap (λ (s : Conditions). (solo_of s).outcome job) (sym is) in
    (made c.self.inside c.args.self.now c.self.view_is c.self.invariant (End c.args.job c.args.counts.turns) c.deref.result.now c.deref.ensures c.settle.new.self (c.settle.ensures.records ∙ ap₂ (λ (o : Option effects.Spread) (x : Outcome). without_unneeded f (with_copies f o (with_over job (Some (told.Own x)) kinds.Ended r))) spreads outcome) (c.settle.ensures.journal ∙ ap₂ (λ (o : Option effects.Spread) (x : Outcome). js ++ End job c.args.counts.turns ∷ (copies f o (with_over job (Some (told.Own x)) kinds.Ended r) ++ retirings f (with_copies f o (with_over job (Some (told.Own x)) kinds.Ended r)))) spreads outcome) c.settle.ensures.tables c.requires.lawful).journal

pub returns-clause-records : goal.returns-clause-records
returns-clause-records c =
    let d = c.deref.result.now in
    let f = farm_of d in
    let job = c.args.job in
    let r = records_of c.self.inside.tables in
    let js = c.self.inside.tables.journal.items in
    let is = setup_is c.self.inside c.args.self.now c.self.view_is d c.deref.ensures in
    let spreads : option_map (spread_seen d) c.spread_of-spread.result ≡ spread_of f (solo_of d) (End job c.args.counts.turns) =
    ap (option_map (spread_seen d)) c.spread_of-spread.ensures
    ∙ spread_end d job c.args.counts c.args.counts.turns (c.requires.counts ∙ ap (λ (s : Conditions). (solo_of s).ending job) (sym is)) in
    let outcome : c.args.outcome ≡ (solo_of d).outcome job = c.requires.outcome ∙ ap (λ (s : Conditions). (solo_of s).outcome job) (sym is) in
    (made c.self.inside c.args.self.now c.self.view_is c.self.invariant (End c.args.job c.args.counts.turns) c.deref.result.now c.deref.ensures c.settle.new.self (c.settle.ensures.records ∙ ap₂ (λ (o : Option effects.Spread) (x : Outcome). without_unneeded f (with_copies f o (with_over job (Some (told.Own x)) kinds.Ended r))) spreads outcome) (c.settle.ensures.journal ∙ ap₂ (λ (o : Option effects.Spread) (x : Outcome). js ++ End job c.args.counts.turns ∷ (copies f o (with_over job (Some (told.Own x)) kinds.Ended r) ++ retirings f (with_copies f o (with_over job (Some (told.Own x)) kinds.Ended r)))) spreads outcome) c.settle.ensures.tables c.requires.lawful).records
