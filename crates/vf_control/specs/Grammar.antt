-- The parts of statements in which no statement stands (docs/LANGUAGE.md, "Grammar"; IEEE Std 1364-2005, clauses 6.1, 9.7 and 17,
-- Annex A.6.5, A.8.5): which tree stands at the front of a list of tokens, where the rest follows it. One case for each
-- alternative of the grammar; nothing looks at the rest.
--
-- The number n is the depth of the deepest expression directly in a tree, and 0 without one: these trees are themselves no
-- expressions and no statements, so they add nothing to a depth.
use Rattle.std.specs.Prelude.{◌≡◌, ℕ, zero, suc, max, List, ◌∷◌, Option, Some, None, codes}
use Rattle.vf_base.specs.declared.names.Place.{Place}
use Rattle.vf_fours.specs.Bits.{FourState}
use Rattle.vf_lexeme.specs.declared.kinds.TokenKind.TheVariants as token
use Rattle.vf_lex.specs.declared.token.Token.{Token}
use Rattle.vf_tree.specs.declared.expressions.TreeExpr.{TreeExpr}
use Rattle.vf_tree.specs.declared.expressions.Select.{Select}
use Rattle.vf_tree.specs.declared.statements.Target.{Target, roll-Target}
use Rattle.vf_tree.specs.declared.statements.TargetForm.TheVariants as target
use Rattle.vf_tree.specs.declared.statements.Delay.{Delay}
use Rattle.vf_tree.specs.declared.statements.DelayForm.{DelayForm}
use Rattle.vf_tree.specs.declared.statements.DelayForm.TheVariants as delay
use Rattle.vf_tree.specs.declared.statements.EdgeWord.{EdgeWord}
use Rattle.vf_tree.specs.declared.statements.Event.{Event}
use Rattle.vf_tree.specs.declared.statements.EventJoin.TheVariants as join
use Rattle.vf_tree.specs.declared.statements.NextEvent.{NextEvent}
use Rattle.vf_tree.specs.declared.statements.Events.{Events}
use Rattle.vf_tree.specs.declared.statements.EventsForm.{EventsForm}
use Rattle.vf_tree.specs.declared.statements.EventsForm.TheVariants as events
use Rattle.vf_tree.specs.declared.statements.Arg.{Arg}
use Rattle.vf_tree.specs.declared.statements.ArgForm.TheVariants as arg
use Rattle.vf_tree.specs.declared.statements.ShowWord.{ShowWord}
use Rattle.vf_tree.specs.declared.statements.SaveWord.{SaveWord}
use Rattle.vf_tree.specs.declared.statements.EndWord.{EndWord}
use Rattle.vf_tree.specs.declared.statements.Task.{Task}
use Rattle.vf_tree.specs.declared.statements.TaskForm.{TaskForm}
use Rattle.vf_tree.specs.declared.statements.TaskForm.TheVariants as task
use Rattle.vf_expression.specs.Grammar.{Tokens, Rule, sign, word, name, number, system, IsSelects}
use Rattle.vf_control.specs.Lists.{Part, IsMany, IsList}
use Rattle.vf_control.specs.Words.{edge_of, show_of, save_of, end_of}

-- ---- tokens and trees

abbrev pub quoted : Place → List ℕ → Token
quoted p text = record { kind = token.Quoted text; place = p }

-- a target that is a name with its selects
abbrev pub named : Place → List ℕ → List Select → Target
named p text selects = roll-Target (record { place = p; form = target.Name (record { text = text; place = p }) selects })

-- a target that is a concatenation
abbrev pub joined : Place → List Target → Target
joined p targets = roll-Target (record { place = p; form = target.Concat targets })

abbrev pub delayed : Place → DelayForm → Delay
delayed p f = record { place = p; form = f }

-- an event that begins at the first place, of a name at the second
abbrev pub event : Place → Option EdgeWord → Place → List ℕ → Option TreeExpr → Event
event p e q text bit = record { place = p; edge = e; name = record { text = text; place = q }; bit = bit }

abbrev pub waited : Place → EventsForm → Events
waited p f = record { place = p; form = f }

abbrev pub quoted_arg : Place → List ℕ → Arg
quoted_arg p text = record { place = p; form = arg.Quoted (record { text = text; place = p }) }

-- an argument that is an expression; it begins with it
abbrev pub value_arg : TreeExpr → Arg
value_arg e = record { place = e.place; form = arg.Expr e }

abbrev pub called : Place → TaskForm → Task
called p f = record { place = p; form = f }

-- ---- the rules, over the expressions in them

module _ (Inner : Rule) where
  -- target = Name { select } | "{" target { "," target } "}", over the targets in it
  pub data IsTargetOver (One : Part Target) (n : ℕ) (ts rest : Tokens) (tree : Target) : Type 0 where
    single : (p : Place) (text : List ℕ) (us : Tokens) (selects : List Select) → IsSelects Inner n us rest selects → ts ≡ name p text ∷ us → tree ≡ named p text selects → IsTargetOver One n ts rest tree
    concat : (p q : Place) (us : Tokens) (targets : List Target) → IsList One n us (sign q (codes "}") ∷ rest) targets → ts ≡ sign p (codes "{") ∷ us → tree ≡ joined p targets → IsTargetOver One n ts rest tree

  -- a target of so many targets inside one another at most
  unfoldable pub IsTargetWithin : ℕ → Part Target
  IsTargetWithin zero n ts rest tree = ⊥
  IsTargetWithin (suc e) n ts rest tree = IsTargetOver (IsTargetWithin e) n ts rest tree

  -- a target: a name in 200 concatenations at most
  abbrev pub IsTarget : Part Target
  IsTarget n ts rest tree = IsTargetWithin 201 n ts rest tree

  -- delay = "#" ( Number | Name | "(" expr ")" )
  pub data IsDelay (n : ℕ) (ts rest : Tokens) (tree : Delay) : Type 0 where
    by_number : (p q : Place) (value : FourState) → ts ≡ sign p (codes "#") ∷ number q value ∷ rest → n ≡ 0 → tree ≡ delayed p (delay.Number (record { value = value; place = q })) → IsDelay n ts rest tree
    by_name : (p q : Place) (text : List ℕ) → ts ≡ sign p (codes "#") ∷ name q text ∷ rest → n ≡ 0 → tree ≡ delayed p (delay.Name (record { text = text; place = q })) → IsDelay n ts rest tree
    by_expr : (p q r : Place) (us : Tokens) (e : TreeExpr) → Inner 1 n us (sign r (codes ")") ∷ rest) e → ts ≡ sign p (codes "#") ∷ sign q (codes "(") ∷ us → tree ≡ delayed p (delay.Expr e) → IsDelay n ts rest tree

  -- [ "[" expr "]" ]
  pub data IsBit (n : ℕ) (ts rest : Tokens) (bit : Option TreeExpr) : Type 0 where
    whole : n ≡ 0 → ts ≡ rest → bit ≡ None → IsBit n ts rest bit
    one_bit : (p q : Place) (us : Tokens) (e : TreeExpr) → Inner 1 n us (sign q (codes "]") ∷ rest) e → ts ≡ sign p (codes "[") ∷ us → bit ≡ Some e → IsBit n ts rest bit

  -- event = [ "posedge" | "negedge" ] Name [ "[" expr "]" ]
  pub data IsEvent (n : ℕ) (ts rest : Tokens) (tree : Event) : Type 0 where
    change : (p : Place) (text : List ℕ) (us : Tokens) (bit : Option TreeExpr) → IsBit n us rest bit → ts ≡ name p text ∷ us → tree ≡ event p None p text bit → IsEvent n ts rest tree
    edged : (p q : Place) (spelled text : List ℕ) (e : EdgeWord) (us : Tokens) (bit : Option TreeExpr) → IsBit n us rest bit → edge_of spelled ≡ Some e → ts ≡ word p spelled ∷ name q text ∷ us
        → tree ≡ event p (Some e) q text bit → IsEvent n ts rest tree

  -- ( "or" | "," ) event
  pub data IsNextEvent (n : ℕ) (ts rest : Tokens) (tree : NextEvent) : Type 0 where
    by_or : (p : Place) (us : Tokens) (e : Event) → IsEvent n us rest e → ts ≡ word p (codes "or") ∷ us → tree ≡ record { join = join.Or; event = e } → IsNextEvent n ts rest tree
    by_comma : (p : Place) (us : Tokens) (e : Event) → IsEvent n us rest e → ts ≡ sign p (codes ",") ∷ us → tree ≡ record { join = join.Comma; event = e } → IsNextEvent n ts rest tree

  -- events = "*" | "(" "*" ")" | Name | "(" event { ( "or" | "," ) event } ")"
  pub data IsEvents (n : ℕ) (ts rest : Tokens) (tree : Events) : Type 0 where
    star : (p : Place) → ts ≡ sign p (codes "*") ∷ rest → n ≡ 0 → tree ≡ waited p events.Star → IsEvents n ts rest tree
    star_paren : (p q r : Place) → ts ≡ sign p (codes "(") ∷ sign q (codes "*") ∷ sign r (codes ")") ∷ rest → n ≡ 0 → tree ≡ waited p events.StarParen → IsEvents n ts rest tree
    name_alone : (p : Place) (text : List ℕ) → ts ≡ name p text ∷ rest → n ≡ 0 → tree ≡ waited p (events.Name (record { text = text; place = p })) → IsEvents n ts rest tree
    event_list : (m k : ℕ) (p q : Place) (us vs : Tokens) (first : Event) (others : List NextEvent) → IsEvent m us vs first → IsMany IsNextEvent k vs (sign q (codes ")") ∷ rest) others → ts ≡ sign p (codes "(") ∷ us → n ≡ max m k
        → tree ≡ waited p (events.List first others) → IsEvents n ts rest tree

  -- arg = Quoted | expr
  pub data IsArg (n : ℕ) (ts rest : Tokens) (tree : Arg) : Type 0 where
    string : (p : Place) (text : List ℕ) → ts ≡ quoted p text ∷ rest → n ≡ 0 → tree ≡ quoted_arg p text → IsArg n ts rest tree
    value : (e : TreeExpr) → Inner 1 n ts rest e → tree ≡ value_arg e → IsArg n ts rest tree

  -- task = ( "$display" | "$write" | "$strobe" | "$monitor" ) [ "(" arg { "," arg } ")" ]
  --     | ( "$save" | "$incsave" ) "(" Quoted ")" | ( "$finish" | "$stop" ) [ "(" expr ")" ]
  pub data IsTask (n : ℕ) (ts rest : Tokens) (tree : Task) : Type 0 where
    show : (p : Place) (text : List ℕ) (w : ShowWord) → show_of text ≡ Some w → ts ≡ system p text ∷ rest → n ≡ 0 → tree ≡ called p (task.Show w None) → IsTask n ts rest tree
    show_args : (p q r : Place) (text : List ℕ) (w : ShowWord) (us : Tokens) (args : List Arg) → IsList IsArg n us (sign r (codes ")") ∷ rest) args → show_of text ≡ Some w → ts ≡ system p text ∷ sign q (codes "(") ∷ us
        → tree ≡ called p (task.Show w (Some args)) → IsTask n ts rest tree
    save : (p q r s : Place) (text bytes : List ℕ) (w : SaveWord) → save_of text ≡ Some w → ts ≡ system p text ∷ sign q (codes "(") ∷ quoted r bytes ∷ sign s (codes ")") ∷ rest → n ≡ 0
        → tree ≡ called p (task.Save w (record { text = bytes; place = r })) → IsTask n ts rest tree
    end : (p : Place) (text : List ℕ) (w : EndWord) → end_of text ≡ Some w → ts ≡ system p text ∷ rest → n ≡ 0 → tree ≡ called p (task.End w None) → IsTask n ts rest tree
    end_number : (p q r : Place) (text : List ℕ) (w : EndWord) (us : Tokens) (e : TreeExpr) → Inner 1 n us (sign r (codes ")") ∷ rest) e → end_of text ≡ Some w → ts ≡ system p text ∷ sign q (codes "(") ∷ us
        → tree ≡ called p (task.End w (Some e)) → IsTask n ts rest tree
