use Rattle.std.proofs.Common.{◌≡◌, ◌≤◌, drop, map, false, [], ◌∷◌}
use Rattle.vf_size.specs.Sizes.{told_of, widths, total}
use Rattle.vf_fours.specs.declared.Bit.TheVariants.{X}
use Rattle.vf_size.specs.Worths.{onto, bits_with}
use Rattle.vf_size.proofs.sizes.+sizes.Given as goal

-- the widths so far, and those of the parts that are left
abbrev pub invariant-widths-loop-part : goal.invariant-widths-loop-part
invariant-widths-loop-part l =
    (widths l.constant l.bits (map (told_of l.scope l.signals) (drop l.part-index l.parts)) ≡ widths l.constant 0 (map (told_of l.scope l.signals) l.parts)) × (l.bits ≤ 129)

-- the values so far, and those of the parts that are left
abbrev pub invariant-parts_value-loop-part : goal.invariant-parts_value-loop-part
invariant-parts_value-loop-part l =
    let rest = map (told_of l.scope l.signals) (drop l.part-index l.parts) in
    let all = map (told_of l.scope l.signals) l.parts in
    total all ≤ 128 → (onto l.some l.all rest ≡ onto false (record { bits = X ∷ []; signed = false }) all) × (bits_with l.some l.all rest ≡ total all)
