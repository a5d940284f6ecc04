-- Which instructions a change of a signal never wakes.
use Rattle.std.proofs.Common.{◌≡◌, ℕ, false, List, refl}
use Rattle.vf_elaborated.specs.declared.code.Event.{Event}
use Rattle.vf_elaborated.specs.declared.code.Target.{Target}
use Rattle.vf_elaborated.specs.declared.code.Instr.{Instr}
use Rattle.vf_elaborated.specs.declared.code.Instr.TheVariants.{Set, Getc, Post, Drive, Count, Jump, Unless, Match, Delay, Await, Until, Show, Watch, Save, IncSave, Finish, Stop, Halt}
use Rattle.vf_elaborated.specs.declared.expr.Expr.{Expr}
use Rattle.vf_elaborated.specs.Tables.{may_wake}

pub wakes_never : (sig : ℕ) (instr : Instr) → ((events : List Event) → instr ≡ Await events → ⊥) → ((e : Expr) → instr ≡ Until e → ⊥)
    → ((target : Target) (e : Expr) → instr ≡ Drive target e → ⊥) → may_wake sig instr ≡ false
wakes_never sig (Await events) await until drive = absurd (await events refl)
wakes_never sig (Until e) await until drive = absurd (until e refl)
wakes_never sig (Drive target e) await until drive = absurd (drive target e refl)
wakes_never sig (Set target e) await until drive = refl
wakes_never sig (Getc target e) await until drive = refl
wakes_never sig (Post target e delay) await until drive = refl
wakes_never sig (Count counter e) await until drive = refl
wakes_never sig (Jump to) await until drive = refl
wakes_never sig (Unless e to) await until drive = refl
wakes_never sig (Match kind e list next) await until drive = refl
wakes_never sig (Delay e) await until drive = refl
wakes_never sig (Show kind show) await until drive = refl
wakes_never sig (Watch show) await until drive = refl
wakes_never sig Save await until drive = refl
wakes_never sig IncSave await until drive = refl
wakes_never sig (Finish n) await until drive = refl
wakes_never sig (Stop n) await until drive = refl
wakes_never sig Halt await until drive = refl
