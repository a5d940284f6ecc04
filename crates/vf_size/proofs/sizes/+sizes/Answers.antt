use Rattle.std.proofs.Common.{rules, ◌≤◌, ◌<◌, true, false, length, map, ◌*◌, [], ◌∷◌}
use Rattle.vf_size.specs.Worths.{plain_worth}
use Rattle.vf_size.specs.Sizes.{total, told_of, primary_of, choice_of, select_of, part_of, worth, plain_shape, memory_shape}
use Rattle.std.proofs.Common.{Ok, sym, ap, ◌∙◌, arith}
use Rattle.std.proofs.lemmas.List.{length-map}
use Rattle.vf_size.proofs.Times.{alone, pair, parts_fit, times_fit, drop_end, drop_next, ended}
use Rattle.vf_size.proofs.ValueLemmas.{onto_all, value_concat, value_repeat}
use Rattle.vf_fours.specs.declared.Bit.TheVariants.{X}
use Rattle.vf_size.specs.Worths.{onto, bits_with}
use Rattle.vf_size.proofs.Nodes.{plain_one, memory_one, memory_two, worth_one, part_one, part_range, part_up, part_down}
use Rattle.vf_size.proofs.sizes.+sizes.Goals as goal

-- src/sizes.rt:263:13
pub memory_shape-returns-in_err-element-in-len1 : goal.memory_shape-returns-in_err-element-in-len1
memory_shape-returns-in_err-element-in-len1 t c =
    let s = c.index-item.result in
    let is =
    ap (λ ss. memory_shape c.args.place c.args.base.now c.args.constant (map (select_of c.args.scope.now c.args.signals.now) ss)) (alone c.args.selects.now s c.in-len1.len_at_least c.in-len1.len_below c.index-item.is)
    ∙ memory_one c.args.scope.now c.args.signals.now c.args.place c.args.base.now c.args.constant s in
    search (rules, is)

-- src/sizes.rt:267:13
pub memory_shape-returns-in_err-by_element-in-len2 :
    goal.memory_shape-returns-in_err-by_element-in-len2
memory_shape-returns-in_err-by_element-in-len2 t c =
    let s = c.index-item-then-selects-lt3.result in
    let t' = c.select-item.result in
    let is =
    ap (λ ss. memory_shape c.args.place c.args.base.now c.args.constant (map (select_of c.args.scope.now c.args.signals.now) ss))
    (pair c.args.selects.now s t' c.in-len2.len_at_least c.in-len2.len_below c.index-item-then-selects-lt3.is c.select-item.is)
    ∙ memory_two c.args.scope.now c.args.signals.now c.args.place c.args.base.now c.args.constant s t' in
    search (rules, is)

-- src/sizes.rt:269:13
pub memory_shape-returns-in_err-ahead-in-len2 : goal.memory_shape-returns-in_err-ahead-in-len2
memory_shape-returns-in_err-ahead-in-len2 t c =
    let s = c.index-item-then-selects-lt3.result in
    let t' = c.select-item.result in
    let is =
    ap (λ ss. memory_shape c.args.place c.args.base.now c.args.constant (map (select_of c.args.scope.now c.args.signals.now) ss))
    (pair c.args.selects.now s t' c.in-len2.len_at_least c.in-len2.len_below c.index-item-then-selects-lt3.is c.select-item.is)
    ∙ memory_two c.args.scope.now c.args.signals.now c.args.place c.args.base.now c.args.constant s t' in
    search (rules, is)

-- src/sizes.rt:270:13
pub memory_shape-returns-in_err-visit-in-len2 : goal.memory_shape-returns-in_err-visit-in-len2
memory_shape-returns-in_err-visit-in-len2 t c =
    let s = c.index-item-then-selects-lt3.result in
    let t' = c.select-item.result in
    let is =
    ap (λ ss. memory_shape c.args.place c.args.base.now c.args.constant (map (select_of c.args.scope.now c.args.signals.now) ss))
    (pair c.args.selects.now s t' c.in-len2.len_at_least c.in-len2.len_below c.index-item-then-selects-lt3.is c.select-item.is)
    ∙ memory_two c.args.scope.now c.args.signals.now c.args.place c.args.base.now c.args.constant s t' in
    search (rules, is)

-- src/sizes.rt:271:13
pub memory_shape-returns-in_err-visit-in-len2-2 : goal.memory_shape-returns-in_err-visit-in-len2-2
memory_shape-returns-in_err-visit-in-len2-2 t c =
    let s = c.index-item-then-selects-lt3.result in
    let t' = c.select-item.result in
    let is =
    ap (λ ss. memory_shape c.args.place c.args.base.now c.args.constant (map (select_of c.args.scope.now c.args.signals.now) ss))
    (pair c.args.selects.now s t' c.in-len2.len_at_least c.in-len2.len_below c.index-item-then-selects-lt3.is c.select-item.is)
    ∙ memory_two c.args.scope.now c.args.signals.now c.args.place c.args.base.now c.args.constant s t' in
    search (rules, is)

-- src/sizes.rt:272:24
pub memory_shape-returns-in_err-part-in-len2 : goal.memory_shape-returns-in_err-part-in-len2
memory_shape-returns-in_err-part-in-len2 t c =
    let s = c.index-item-then-selects-lt3.result in
    let t' = c.select-item.result in
    let is =
    ap (λ ss. memory_shape c.args.place c.args.base.now c.args.constant (map (select_of c.args.scope.now c.args.signals.now) ss))
    (pair c.args.selects.now s t' c.in-len2.len_at_least c.in-len2.len_below c.index-item-then-selects-lt3.is c.select-item.is)
    ∙ memory_two c.args.scope.now c.args.signals.now c.args.place c.args.base.now c.args.constant s t' in
    search (rules, is)

-- src/sizes.rt:255:1
pub memory_shape-returns-in_ok-element-in-len1 : goal.memory_shape-returns-in_ok-element-in-len1
memory_shape-returns-in_ok-element-in-len1 t c =
    let s = c.index-item.result in
    let is =
    ap (λ ss. memory_shape c.args.place c.args.base.now c.args.constant (map (select_of c.args.scope.now c.args.signals.now) ss)) (alone c.args.selects.now s c.in-len1.len_at_least c.in-len1.len_below c.index-item.is)
    ∙ memory_one c.args.scope.now c.args.signals.now c.args.place c.args.base.now c.args.constant s in
    search (rules, is)

-- src/sizes.rt:255:1
pub memory_shape-returns-in_ok-part-in-len2 : goal.memory_shape-returns-in_ok-part-in-len2
memory_shape-returns-in_ok-part-in-len2 t c =
    let s = c.index-item-then-selects-lt3.result in
    let t' = c.select-item.result in
    let is =
    ap (λ ss. memory_shape c.args.place c.args.base.now c.args.constant (map (select_of c.args.scope.now c.args.signals.now) ss))
    (pair c.args.selects.now s t' c.in-len2.len_at_least c.in-len2.len_below c.index-item-then-selects-lt3.is c.select-item.is)
    ∙ memory_two c.args.scope.now c.args.signals.now c.args.place c.args.base.now c.args.constant s t' in
    search (rules, is)

-- src/sizes.rt:384:24
pub parameter_value-returns-in_err-part-in-len1-clause-is :
    goal.parameter_value-returns-in_err-part-in-len1-clause-is
parameter_value-returns-in_err-part-in-len1-clause-is t c =
    let s = c.select-item.result in
    let is =
    ap (λ ss. plain_worth c.args.place c.args.base.now c.args.value (map (select_of c.args.scope.now c.args.signals.now) ss) c.args.to) (alone c.args.selects.now s c.in-len1.len_at_least c.in-len1.len_below c.select-item.is)
    ∙ worth_one c.args.scope.now c.args.signals.now c.args.place c.args.base.now c.args.value s c.args.to in
    search (rules, is)

-- src/sizes.rt:385:25
pub parameter_value-returns-in_err-index-in-len1-clause-is :
    goal.parameter_value-returns-in_err-index-in-len1-clause-is
parameter_value-returns-in_err-index-in-len1-clause-is t c =
    let s = c.select-item.result in
    let is =
    ap (λ ss. plain_worth c.args.place c.args.base.now c.args.value (map (select_of c.args.scope.now c.args.signals.now) ss) c.args.to) (alone c.args.selects.now s c.in-len1.len_at_least c.in-len1.len_below c.select-item.is)
    ∙ worth_one c.args.scope.now c.args.signals.now c.args.place c.args.base.now c.args.value s c.args.to in
    search (rules, is)

-- src/sizes.rt:376:1
pub parameter_value-returns-in_ok-index-in-len1-clause-is :
    goal.parameter_value-returns-in_ok-index-in-len1-clause-is
parameter_value-returns-in_ok-index-in-len1-clause-is t c =
    let s = c.select-item.result in
    let is =
    ap (λ ss. plain_worth c.args.place c.args.base.now c.args.value (map (select_of c.args.scope.now c.args.signals.now) ss) c.args.to) (alone c.args.selects.now s c.in-len1.len_at_least c.in-len1.len_below c.select-item.is)
    ∙ worth_one c.args.scope.now c.args.signals.now c.args.place c.args.base.now c.args.value s c.args.to in
    search (rules, is)

-- src/sizes.rt:83:1
pub part_of-returns-in-One : goal.part_of-returns-in-One
part_of-returns-in-One t c =
    let is = ap (λ f. part_of c.args.base.now (choice_of c.args.scope.now c.args.signals.now f)) c.in-One.is ∙ part_one c.args.scope.now c.args.signals.now c.args.base.now c.in-One.field-0 in
    ap Ok c.bit_of.ensures ∙ sym is

-- src/sizes.rt:83:1
pub part_of-returns-in_ok-last-in-Part : goal.part_of-returns-in_ok-last-in-Part
part_of-returns-in_ok-last-in-Part t c =
    let is = ap (λ f. part_of c.args.base.now (choice_of c.args.scope.now c.args.signals.now f)) c.in-Part.is ∙ part_range c.args.scope.now c.args.signals.now c.args.base.now c.in-Part.left c.in-Part.right in
    search (rules, is)

-- src/sizes.rt:83:1
pub part_of-returns-in_ok-width-in-Up : goal.part_of-returns-in_ok-width-in-Up
part_of-returns-in_ok-width-in-Up t c =
    let is = ap (λ f. part_of c.args.base.now (choice_of c.args.scope.now c.args.signals.now f)) c.in-Up.is ∙ part_up c.args.scope.now c.args.signals.now c.args.base.now c.in-Up.base c.in-Up.width in
    search (rules, is)

-- src/sizes.rt:83:1
pub part_of-returns-in_ok-width-in-Down : goal.part_of-returns-in_ok-width-in-Down
part_of-returns-in_ok-width-in-Down t c =
    let is = ap (λ f. part_of c.args.base.now (choice_of c.args.scope.now c.args.signals.now f)) c.in-Down.is ∙ part_down c.args.scope.now c.args.signals.now c.args.base.now c.in-Down.base c.in-Down.width in
    search (rules, is)

-- src/sizes.rt:247:24
pub plain_shape-returns-in_err-part-in-len1 : goal.plain_shape-returns-in_err-part-in-len1
plain_shape-returns-in_err-part-in-len1 t c =
    let s = c.select-item.result in
    let is =
    ap (λ ss. plain_shape c.args.place c.args.base.now c.args.constant (map (select_of c.args.scope.now c.args.signals.now) ss)) (alone c.args.selects.now s c.in-len1.len_at_least c.in-len1.len_below c.select-item.is)
    ∙ plain_one c.args.scope.now c.args.signals.now c.args.place c.args.base.now c.args.constant s in
    search (rules, is)

-- src/sizes.rt:239:1
pub plain_shape-returns-in_ok-part-in-len1 : goal.plain_shape-returns-in_ok-part-in-len1
plain_shape-returns-in_ok-part-in-len1 t c =
    let s = c.select-item.result in
    let is =
    ap (λ ss. plain_shape c.args.place c.args.base.now c.args.constant (map (select_of c.args.scope.now c.args.signals.now) ss)) (alone c.args.selects.now s c.in-len1.len_at_least c.in-len1.len_below c.select-item.is)
    ∙ plain_one c.args.scope.now c.args.signals.now c.args.place c.args.base.now c.args.constant s in
    search (rules, is)

pub primary_value-fitted-requires-in-Concat : goal.primary_value-fitted-requires-in-Concat
primary_value-fitted-requires-in-Concat t c =
    let fits = parts_fit (map (told_of c.args.scope.now c.args.signals.now) c.as_slice-parts.result.now) c.in_ok-bits-in-Concat.bits c.args.place c.in_ok-own-in-Concat.own (sym c.widths.ensures.is ∙ c.in_ok-bits-in-Concat.was) (sym c.joined.ensures ∙ c.in_ok-own-in-Concat.was) in
    c.in_ok-value-in-Concat.ensures.width fits.3 fits.1 ∙ fits.2

pub primary_value-repeated-requires-clause-most : goal.primary_value-repeated-requires-clause-most
primary_value-repeated-requires-clause-most t c =
    let fits = times_fit (map (told_of c.args.scope.now c.args.signals.now) c.as_slice-parts-in-Repeat.result.now) c.in_ok-n-in-Repeat.n c.in_ok-bits-in-Repeat.bits c.args.place c.in_ok-own-in-Repeat.own (sym c.widths-in-Repeat.ensures.is ∙ c.in_ok-bits-in-Repeat.was) (sym c.joined-in-Repeat.ensures ∙ c.in_ok-own-in-Repeat.was) in
    let long = ap (λ k. c.in_ok-n-in-Repeat.n * k) (c.in_ok-value-in-Repeat.ensures.width fits.5 fits.1) in
    let most = fits.3 in
    omega (arith, long, most)

pub primary_value-fitted-requires-in-Repeat : goal.primary_value-fitted-requires-in-Repeat
primary_value-fitted-requires-in-Repeat t c =
    let fits = times_fit (map (told_of c.args.scope.now c.args.signals.now) c.as_slice-parts-in-Repeat.result.now) c.in_ok-n-in-Repeat.n c.in_ok-bits-in-Repeat.bits c.args.place c.in_ok-own-in-Repeat.own (sym c.widths-in-Repeat.ensures.is ∙ c.in_ok-bits-in-Repeat.was) (sym c.joined-in-Repeat.ensures ∙ c.in_ok-own-in-Repeat.was) in
    c.repeated.ensures.width ∙ (ap (λ k. c.in_ok-n-in-Repeat.n * k) (c.in_ok-value-in-Repeat.ensures.width fits.5 fits.1) ∙ fits.4)

pub primary_value-returns-in_ok-value-in-Concat-clause-is : goal.primary_value-returns-in_ok-value-in-Concat-clause-is
primary_value-returns-in_ok-value-in-Concat-clause-is t c =
    let fits = parts_fit (map (told_of c.args.scope.now c.args.signals.now) c.as_slice-parts.result.now) c.in_ok-bits-in-Concat.bits c.args.place c.in_ok-own-in-Concat.own (sym c.widths.ensures.is ∙ c.in_ok-bits-in-Concat.was) (sym c.joined.ensures ∙ c.in_ok-own-in-Concat.was) in
    let count = length-map c.as_slice-parts.result.now (told_of c.args.scope.now c.args.signals.now) in
    let some' = fits.0 in
    let some : 0 < length c.as_slice-parts.result.now = omega (arith, some', count) in
    let whole = c.parts_value.ensures.is some fits.1 in
    let is = ap (λ f. worth ((primary_of c.args.scope.now c.args.signals.now f c.args.place).typed true c.args.to)) c.in-Concat.is ∙ value_concat c.args.scope.now c.args.signals.now c.in-Concat.parts c.args.place c.args.to in
    search (rules, is, whole)

pub primary_value-returns-in_ok-value-in-Repeat-clause-is : goal.primary_value-returns-in_ok-value-in-Repeat-clause-is
primary_value-returns-in_ok-value-in-Repeat-clause-is t c =
    let fits = times_fit (map (told_of c.args.scope.now c.args.signals.now) c.as_slice-parts-in-Repeat.result.now) c.in_ok-n-in-Repeat.n c.in_ok-bits-in-Repeat.bits c.args.place c.in_ok-own-in-Repeat.own (sym c.widths-in-Repeat.ensures.is ∙ c.in_ok-bits-in-Repeat.was) (sym c.joined-in-Repeat.ensures ∙ c.in_ok-own-in-Repeat.was) in
    let count = length-map c.as_slice-parts-in-Repeat.result.now (told_of c.args.scope.now c.args.signals.now) in
    let some' = fits.0 in
    let some : 0 < length c.as_slice-parts-in-Repeat.result.now = omega (arith, some', count) in
    let whole = c.parts_value-in-Repeat.ensures.is some fits.1 in
    let is = ap (λ f. worth ((primary_of c.args.scope.now c.args.signals.now f c.args.place).typed true c.args.to)) c.in-Repeat.is ∙ value_repeat c.args.scope.now c.args.signals.now c.in-Repeat.count c.in-Repeat.parts c.args.place c.args.to in
    search (rules, is, whole)

pub primary_value-returns-in_err-value-in-Concat-clause-is : goal.primary_value-returns-in_err-value-in-Concat-clause-is
primary_value-returns-in_err-value-in-Concat-clause-is t c =
    let fits = parts_fit (map (told_of c.args.scope.now c.args.signals.now) c.as_slice-parts.result.now) c.in_ok-bits-in-Concat.bits c.args.place c.in_ok-own-in-Concat.own (sym c.widths.ensures.is ∙ c.in_ok-bits-in-Concat.was) (sym c.joined.ensures ∙ c.in_ok-own-in-Concat.was) in
    let count = length-map c.as_slice-parts.result.now (told_of c.args.scope.now c.args.signals.now) in
    let some' = fits.0 in
    let some : 0 < length c.as_slice-parts.result.now = omega (arith, some', count) in
    let whole = c.parts_value.ensures.is some fits.1 in
    let is = ap (λ f. worth ((primary_of c.args.scope.now c.args.signals.now f c.args.place).typed true c.args.to)) c.in-Concat.is ∙ value_concat c.args.scope.now c.args.signals.now c.in-Concat.parts c.args.place c.args.to in
    search (rules, is, whole)

pub primary_value-returns-in_err-value-in-Repeat-clause-is : goal.primary_value-returns-in_err-value-in-Repeat-clause-is
primary_value-returns-in_err-value-in-Repeat-clause-is t c =
    let fits = times_fit (map (told_of c.args.scope.now c.args.signals.now) c.as_slice-parts-in-Repeat.result.now) c.in_ok-n-in-Repeat.n c.in_ok-bits-in-Repeat.bits c.args.place c.in_ok-own-in-Repeat.own (sym c.widths-in-Repeat.ensures.is ∙ c.in_ok-bits-in-Repeat.was) (sym c.joined-in-Repeat.ensures ∙ c.in_ok-own-in-Repeat.was) in
    let count = length-map c.as_slice-parts-in-Repeat.result.now (told_of c.args.scope.now c.args.signals.now) in
    let some' = fits.0 in
    let some : 0 < length c.as_slice-parts-in-Repeat.result.now = omega (arith, some', count) in
    let whole = c.parts_value-in-Repeat.ensures.is some fits.1 in
    let is = ap (λ f. worth ((primary_of c.args.scope.now c.args.signals.now f c.args.place).typed true c.args.to)) c.in-Repeat.is ∙ value_repeat c.args.scope.now c.args.signals.now c.in-Repeat.count c.in-Repeat.parts c.args.place c.args.to in
    search (rules, is, whole)

pub parts_value-returns-clause-is : goal.parts_value-returns-clause-is
parts_value-returns-clause-is t c =
    λ some most.
    let parts = c.args.parts.now in
    let at_end = c.loop-part-test.false in
    let over : length parts ≤ c.loop-part.part-index = omega (arith, at_end) in
    let count = length-map parts (told_of c.args.scope.now c.args.signals.now) in
    let some' : 0 < length (map (told_of c.args.scope.now c.args.signals.now) parts) = omega (arith, some, count) in
    sym (ap (λ ps. onto c.loop-part.some c.loop-part.all (map (told_of c.args.scope.now c.args.signals.now) ps)) (drop_end c.loop-part.part-index parts over))
    ∙ (c.loop-part.invariant most).0 ∙ onto_all (record { bits = X ∷ []; signed = false }) (map (told_of c.args.scope.now c.args.signals.now) parts) some'

pub parts_value-returns-clause-width : goal.parts_value-returns-clause-width
parts_value-returns-clause-width t c =
    λ least most.
    let parts = c.args.parts.now in
    let at_end = c.loop-part-test.false in
    let over : length parts ≤ c.loop-part.part-index = omega (arith, at_end) in
    ended c.loop-part.some c.loop-part.all (total (map (told_of c.args.scope.now c.args.signals.now) parts))
    (sym (ap (λ ps. bits_with c.loop-part.some c.loop-part.all (map (told_of c.args.scope.now c.args.signals.now) ps)) (drop_end c.loop-part.part-index parts over)) ∙ (c.loop-part.invariant most).1) least

pub parts_value-returns-in_err-value-clause-is : goal.parts_value-returns-in_err-value-clause-is
parts_value-returns-in_err-value-clause-is t c =
    λ some most.
    let parts = c.args.parts.now in
    let count = length-map parts (told_of c.args.scope.now c.args.signals.now) in
    let some' : 0 < length (map (told_of c.args.scope.now c.args.signals.now) parts) = omega (arith, some, count) in
    let is =
    sym (onto_all (record { bits = X ∷ []; signed = false }) (map (told_of c.args.scope.now c.args.signals.now) parts) some') ∙ sym (c.loop-part.invariant most).0
    ∙ ap (λ ps. onto c.loop-part.some c.loop-part.all (map (told_of c.args.scope.now c.args.signals.now) ps)) (drop_next c.loop-part.part-index parts c.part-item.result c.loop-part-test.true c.part-item.is) in
    search (rules, is)
