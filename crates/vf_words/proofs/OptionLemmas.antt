-- What clap's contract says of a parse, in the words of the definition.
use Rattle.std.proofs.Common.{◌≡◌, ◌≢◌, ◌∙◌, ℕ, true, List, [], ◌∷◌, Option, Some, None, Ok, Err, ap, ap₂, refl, sym, inl, inr}
use Rattle.std.specs.Prelude.{fold, option_map, unwrap_or}
use Rattle.clap.proofs.OnLiterals.{clap_on_literals}
use Rattle.clap.specs.Faults.{fault_of, is_simple_and_free}
use Rattle.clap.specs.Kinds.{HasKind, IsAmong, Kinds}
use Rattle.clap.specs.Simple.{App, is_simple, matches_of, with_rule}
use Rattle.clap.specs.Values.{kind_of}
use Rattle.clap.specs.Walk.{Row}
use Rattle.clap.specs.declared.error.Error.{Error}
use Rattle.clap.specs.declared.error.kind.ErrorKind.{ErrorKind}
use Rattle.clap.specs.declared.error.kind.ErrorKind.TheVariants.{OutOfMemory}
use Rattle.vf_words.specs.declared.fault.WordFault.TheVariants.{Refused}
use Rattle.vf_words.specs.Options.{bare, with_option, option_names, journal_rule, files_rule, vfarm, unless, parsed}

pub is_free : is_simple_and_free vfarm ≡ true
unfolding vfarm clap_on_literals
is_free = refl

pub is_plain : is_simple vfarm ≡ true
unfolding vfarm clap_on_literals
is_plain = refl

pub found : (app : App) (words : List (List ℕ)) (rows : List Row) → app ≡ vfarm → fault_of app words ≡ [] → rows ≡ matches_of app words
    → parsed words ≡ Ok rows
unfolding parsed
found app words rows e none is =
    let faultless : fault_of vfarm words ≡ [] = ap (λ (a : App). fault_of a words) (sym e) ∙ none in
    let rows_are : matches_of vfarm words ≡ rows = ap (λ (a : App). matches_of a words) (sym e) ∙ sym is in
    ap₂ (unless {Y = List Row}) faultless rows_are

refuses : {Y : Type 0} (kinds : Kinds) (kind : ErrorKind) (y : Y) → IsAmong kind kinds → unless kinds y ≡ Err Refused
refuses [] kind y among = absurd among
refuses (x ∷ xs) kind y among = refl

pub refused : (app : App) (words : List (List ℕ)) (error : Error) → app ≡ vfarm → HasKind (fault_of app words) error
    → kind_of error ≢ OutOfMemory → parsed words ≡ Err Refused
unfolding parsed
refused app words error e (inl memory) other = absurd (other memory)
refused app words error e (inr among) other =
    ap (λ (a : App). unless (fault_of a words) (matches_of vfarm words)) (sym e)
    ∙ refuses (fault_of app words) (kind_of error) (matches_of vfarm words) among

pub whole : with_rule (with_rule (fold with_option bare option_names) journal_rule) files_rule ≡ vfarm
unfolding vfarm
whole = refl

pub or_default : {A B : Type 0} (f : A → B) (o : Option A) (d : A) → f (unwrap_or o d) ≡ unwrap_or (option_map f o) (f d)
or_default f (Some x) d = refl
or_default f None d = refl
