use Rattle.std.proofs.Common.{◌≤◌, Bool, true, false, arith}
use mir.Val.{bool_byte}
use Rattle.df_value_text.proofs.BitsLaws.{small_bits}
use Rattle.df_value_text.proofs.brackets.Brackets.push.Goals as goal

one_bit : (b : Bool) → bool_byte b ≤ 1
one_bit true = omega arith
one_bit false = omega arith

pub overflow_mul-self : goal.overflow_mul-self
overflow_mul-self c = omega (arith, (small_bits c.self.inside.count c.self.inside.kinds _ c.self.view_is c.requires c.self.invariant).1)

pub overflow_add-self : goal.overflow_add-self
overflow_add-self c =
    omega (arith, (small_bits c.self.inside.count c.self.inside.kinds _ c.self.view_is c.requires c.self.invariant).1, one_bit c.args.map)

pub overflow_add-self-2 : goal.overflow_add-self-2
overflow_add-self-2 c = omega (arith, (small_bits c.self.inside.count c.self.inside.kinds _ c.self.view_is c.requires c.self.invariant).0)
