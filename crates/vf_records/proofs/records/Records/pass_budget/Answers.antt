use Rattle.std.proofs.Common.{◌≡◌, ◌∙◌, ◌++◌, ◌∷◌, Option, Some, option_map, sym, ap, ap₂}
use Rattle.vf_journal.specs.declared.entry.Entry.TheVariants.{Pages}
use Rattle.vf_base.specs.declared.run.Outcome.TheVariants as outcomes
use Rattle.vf_base.specs.declared.run.Outcome.{Outcome}
use Rattle.vf_jobs.specs.Setup.{Conditions}
use Rattle.vf_journal.specs.declared.entry.Kind.TheVariants as kinds
use Rattle.vf_journal.specs.declared.entry.Told.TheVariants as told
use Rattle.vf_journal.specs.Farm.{limits}
use Rattle.vf_journal.specs.Effects as effects
use Rattle.vf_journal.specs.Effects.{with_over, with_copies, without_unneeded, copies, retirings, spread_of}
use Rattle.vf_records.specs.declared.spread.Reached.TheVariants as reached
use Rattle.vf_records.specs.Account.{farm_of, solo_of}
use Rattle.vf_records.specs.Spreads.{spread_seen}
use Rattle.vf_records.specs.Tables.{records_of}
use Rattle.vf_records.proofs.RecordLemmas.{setup_is, ended_running, spread_pass, spread_node, serve_at, made}
use Rattle.vf_records.proofs.records.Records.pass_budget.Goals as goal

pub limits_of-requires : goal.limits_of-requires
limits_of-requires c = (ended_running c.self.inside c.args.self.now c.self.view_is c.self.invariant c.deref.result.now c.deref.ensures c.args.job c.requires.guard.0.attempt c.requires.guard.0.runs).node

pub settle-requires-clause-job : goal.settle-requires-clause-job
settle-requires-clause-job c = (ended_running c.self.inside c.args.self.now c.self.view_is c.self.invariant c.deref-2.result.now c.deref-2.ensures c.args.job c.requires.guard.0.attempt c.requires.guard.0.runs).is

pub settle-requires-clause-left : goal.settle-requires-clause-left
settle-requires-clause-left c = (ended_running c.self.inside c.args.self.now c.self.view_is c.self.invariant c.deref-2.result.now c.deref-2.ensures c.args.job c.requires.guard.0.attempt c.requires.guard.0.runs).left

pub settle-requires-clause-spread : goal.settle-requires-clause-spread
settle-requires-clause-spread c = spread_node c.args.job c.spread_of-spread.result kinds.Over (reached.Passing c.args.turn c.limits_of.result) c.spread_of-spread.ensures

pub settle-requires-clause-serve : goal.settle-requires-clause-serve
settle-requires-clause-serve c = serve_at c.self.inside c.self.invariant c.deref-2.result.now c.deref-2.ensures

pub invariant_of-self : goal.invariant_of-self
invariant_of-self c =
    let d = c.deref-2.result.now in
    let f = farm_of d in
    let job = c.args.job in
    let r = records_of c.self.inside.tables in
    let js = c.self.inside.tables.journal.items in
    let is = setup_is c.self.inside c.args.self.now c.self.view_is d c.deref-2.ensures in
    let spreads : option_map (spread_seen d) c.spread_of-spread.result ≡ spread_of f (solo_of d) (Pages job c.args.turn c.args.pages) =
    ap (option_map (spread_seen d)) c.spread_of-spread.ensures ∙ spread_pass d job c.limits_of.result c.args.turn c.args.pages (c.limits_of.ensures.limits ∙ ap (λ (s : Conditions). limits (farm_of s) job) (c.deref.ensures ∙ sym c.deref-2.ensures)) in
    let outcome : outcomes.Pages c.args.pages ≡ (solo_of d).outcome job = sym c.requires.solo.outcome ∙ ap (λ (s : Conditions). (solo_of s).outcome job) (sym is) in
    (made c.self.inside c.args.self.now c.self.view_is c.self.invariant (Pages c.args.job c.args.turn c.args.pages) c.deref-2.result.now c.deref-2.ensures c.settle.new.self (c.settle.ensures.records ∙ ap₂ (λ (o : Option effects.Spread) (x : Outcome). without_unneeded f (with_copies f o (with_over job (Some (told.Own x)) kinds.Over r))) spreads outcome) (c.settle.ensures.journal ∙ ap₂ (λ (o : Option effects.Spread) (x : Outcome). js ++ Pages job c.args.turn c.args.pages ∷ (copies f o (with_over job (Some (told.Own x)) kinds.Over r) ++ retirings f (with_copies f o (with_over job (Some (told.Own x)) kinds.Over r)))) spreads outcome) c.settle.ensures.tables c.requires).kept

pub returns-clause-journal : goal.returns-clause-journal
returns-clause-journal c =
    let d = c.deref-2.result.now in
    let f = farm_of d in
    let job = c.args.job in
    let r = records_of c.self.inside.tables in
    let js = c.self.inside.tables.journal.items in
    let is = setup_is c.self.inside c.args.self.now c.self.view_is d c.deref-2.ensures in
    let spreads : option_map (spread_seen d) c.spread_of-spread.result ≡ spread_of f (solo_of d) (Pages job c.args.turn c.args.pages) =
    ap (option_map (spread_seen d)) c.spread_of-spread.ensures ∙ spread_pass d job c.limits_of.result c.args.turn c.args.pages (c.limits_of.ensures.limits ∙ ap (λ (s : Conditions). limits (farm_of s) job) (c.deref.ensures ∙ sym c.deref-2.ensures)) in
    let outcome : outcomes.Pages c.args.pages ≡ (solo_of d).outcome job = sym c.requires.solo.outcome ∙ ap (λ (s : Conditions). (solo_of s).outcome job) (sym is) in
    (made c.self.inside c.args.self.now c.self.view_is c.self.invariant (Pages c.args.job c.args.turn c.args.pages) c.deref-2.result.now c.deref-2.ensures c.settle.new.self (c.settle.ensures.records ∙ ap₂ (λ (o : Option effects.Spread) (x : Outcome). without_unneeded f (with_copies f o (with_over job (Some (told.Own x)) kinds.Over r))) spreads outcome) (c.settle.ensures.journal ∙ ap₂ (λ (o : Option effects.Spread) (x : Outcome). js ++ Pages job c.args.turn c.args.pages ∷ (copies f o (with_over job (Some (told.Own x)) kinds.Over r) ++ retirings f (with_copies f o (with_over job (Some (told.Own x)) kinds.Over r)))) spreads outcome) c.settle.ensures.tables c.requires).journal

pub returns-clause-records : goal.returns-clause-records
returns-clause-records c =
    let d = c.deref-2.result.now in
    let f = farm_of d in
    let job = c.args.job in
    let r = records_of c.self.inside.tables in
    let js = c.self.inside.tables.journal.items in
    let is = setup_is c.self.inside c.args.self.now c.self.view_is d c.deref-2.ensures in
    let spreads : option_map (spread_seen d) c.spread_of-spread.result ≡ spread_of f (solo_of d) (Pages job c.args.turn c.args.pages) =
    ap (option_map (spread_seen d)) c.spread_of-spread.ensures ∙ spread_pass d job c.limits_of.result c.args.turn c.args.pages (c.limits_of.ensures.limits ∙ ap (λ (s : Conditions). limits (farm_of s) job) (c.deref.ensures ∙ sym c.deref-2.ensures)) in
    let outcome : outcomes.Pages c.args.pages ≡ (solo_of d).outcome job = sym c.requires.solo.outcome ∙ ap (λ (s : Conditions). (solo_of s).outcome job) (sym is) in
    (made c.self.inside c.args.self.now c.self.view_is c.self.invariant (Pages c.args.job c.args.turn c.args.pages) c.deref-2.result.now c.deref-2.ensures c.settle.new.self (c.settle.ensures.records ∙ ap₂ (λ (o : Option effects.Spread) (x : Outcome). without_unneeded f (with_copies f o (with_over job (Some (told.Own x)) kinds.Over r))) spreads outcome) (c.settle.ensures.journal ∙ ap₂ (λ (o : Option effects.Spread) (x : Outcome). js ++ Pages job c.args.turn c.args.pages ∷ (copies f o (with_over job (Some (told.Own x)) kinds.Over r) ++ retirings f (with_copies f o (with_over job (Some (told.Own x)) kinds.Over r)))) spreads outcome) c.settle.ensures.tables c.requires).records
