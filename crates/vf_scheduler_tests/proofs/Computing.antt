-- All that unfolds when the scheduler runs on a design.

unfoldable pub everything : Unit {0}
unfolding
    Rattle.vf_fours.specs.Bits.zip_with Rattle.vf_fours.specs.Bits.tabulate Rattle.vf_fours.specs.Bits.all_known
    Rattle.vf_fours.specs.Choices.unary_of Rattle.vf_fours.specs.Choices.binary_of Rattle.vf_fours.specs.Numbers.weight_of
    Rattle.vf_fours.specs.Numbers.integer Rattle.vf_fours.specs.Numbers.residue Rattle.vf_fours.specs.Numbers.digits_of
    Rattle.vf_fours.specs.Numbers.u128_of Rattle.vf_fours.specs.Numbers.fitting Rattle.vf_fours.specs.Operators.bitwise_of
    Rattle.vf_fours.specs.Operators.wire_of Rattle.vf_fours.specs.Operators.not_of Rattle.vf_fours.specs.Operators.plus_of
    Rattle.vf_fours.specs.Operators.numeric_of Rattle.vf_fours.specs.Operators.divided_of Rattle.vf_fours.specs.Operators.neg_of
    Rattle.vf_fours.specs.Operators.shifted_of Rattle.vf_fours.specs.Operators.eq_of Rattle.vf_fours.specs.Operators.eqq_of
    Rattle.vf_fours.specs.Operators.compared_of Rattle.vf_fours.specs.Operators.matches_z Rattle.vf_fours.specs.Operators.matches_x
    Rattle.vf_fours.specs.Operators.truth_of Rattle.vf_fours.specs.Operators.reduce_of Rattle.vf_fours.specs.Operators.concat_of
    Rattle.vf_fours.specs.Operators.select_of Rattle.vf_fours.specs.Operators.resize_of Rattle.vf_fours.specs.Planes.bit_from
    Rattle.vf_fours.specs.Planes.bits_of Rattle.vf_format.specs.Printed.falling Rattle.vf_format.specs.Printed.letter_of
    Rattle.vf_format.specs.Printed.digit_of Rattle.vf_format.specs.Printed.digit_at Rattle.vf_format.specs.Printed.decimal_of
    Rattle.vf_format.specs.Printed.field_of Rattle.vf_format.specs.Printed.byte_at Rattle.vf_elaborated.specs.Nodes.told_from
    Rattle.vf_elaborated.specs.Values.index_of Rattle.vf_elaborated.specs.Values.is_stimulus Rattle.vf_elaborated.specs.Values.delay_of
    Rattle.vf_elaborated.specs.Values.rounds_of Rattle.vf_scheduler.specs.Assigning.updates_of Rattle.vf_scheduler.specs.Driving.net_bits
    Rattle.vf_scheduler.specs.Posting.post Rattle.vf_scheduler.specs.Posting.delayed Rattle.vf_scheduler.specs.Posting.strobe
    Rattle.vf_scheduler.specs.Printing.shown Rattle.vf_scheduler.specs.Seeing.is_drained Rattle.vf_scheduler.specs.Seeing.is_at_read
    Rattle.vf_scheduler.specs.Turning.turn_of Rattle.vf_scheduler.specs.Turning.start Rattle.vf_scheduler.specs.Updating.updated
    Rattle.vf_scheduler.specs.Words.words_of Rattle.vf_scheduler_tests.specs.Rows.rows_from
    Rattle.vf_elaborated.specs.declared.expr.Expr.TheViews.out-Expr Rattle.vf_elaborated.specs.declared.expr.Expr.TheViews.roll-Expr
    Rattle.vf_elaborated.specs.declared.expr.Expr.TheBlock.hidden-the_row-Expr-0
    Rattle.vf_elaborated.specs.declared.expr.Expr.TheBlock.shown-the_row-Expr-0
    Rattle.vf_elaborated.specs.declared.expr.Expr.TheBlock.hidden-the_row-Expr-1
    Rattle.vf_elaborated.specs.declared.expr.Expr.TheBlock.shown-the_row-Expr-1 denote.Hole.Carrier.out denote.Hole.Carrier.roll
    denote.Hole.Carrier.shown denote.Hole.Carrier.hidden Rattle.std.specs.Fmt.digits
everything = tt
