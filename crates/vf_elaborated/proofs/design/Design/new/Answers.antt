use Rattle.std.proofs.Common.{arith, length, ap, ◌+◌, ◌*◌, ◌<◌, ◌^◌, sym, ◌∙◌, ap₂, subst}
use Rattle.std.specs.List.{All}
use Rattle.vf_elaborated.specs.Addresses.{slots_begin}
use Rattle.vf_elaborated.specs.Tables.{may_wait, drives}
use Rattle.vf_elaborated.specs.Noting.{tables}
use Rattle.vf_elaborated.specs.Places.{places_for, laid}
use Rattle.vf_elaborated.proofs.AddressLemmas.{IsNarrow, slots_small, all_narrow, laid_alike}
use Rattle.vf_elaborated.proofs.design.Design.new.Goals as goal

pub places_for-requires-clause-few : goal.places_for-requires-clause-few
places_for-requires-clause-few c =
    subst (λ n. n + 10 * c.args.slots + 64 < 2 ^ 32)
    (sym (ap₂ (λ signals processes. slots_begin (laid signals processes c.args.slots)) c.as_slice.ensures c.as_slice-2.ensures)) (slots_small _ c.requires)

pub places_for-requires-clause-narrow : goal.places_for-requires-clause-narrow
places_for-requires-clause-narrow c = subst (All IsNarrow) (sym c.as_slice-2.ensures) (all_narrow _ c.requires)

pub watchers-requires : goal.watchers-requires
watchers-requires c = record { few = omega (arith, c.requires.few_processes, ap length c.as_slice-3.ensures) }

pub drivers_by_net-requires : goal.drivers_by_net-requires
drivers_by_net-requires c = record { few = omega (arith, c.requires.few_processes, ap length c.as_slice-4.ensures) }

pub invariant_of-result : goal.invariant_of-result
invariant_of-result c = record {
  formed = c.requires;
  places =
      c.in_ok-places.ensures ∙ ap₂ (λ signals processes. places_for (laid signals processes c.args.slots)) c.as_slice.ensures c.as_slice-2.ensures ∙ laid_alike _;
  waiting = c.in_ok-waiting.ensures ∙ ap₂ (λ processes count. tables may_wait processes count) c.as_slice-3.ensures c.len.ensures;
  driving = c.in_ok-driving.ensures ∙ ap₂ (λ processes count. tables drives processes count) c.as_slice-4.ensures c.len-2.ensures;
}
