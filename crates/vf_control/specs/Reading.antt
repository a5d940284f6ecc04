-- What the readers do, as functions on lists of tokens. The grammar does not rest on them: the proofs show that they read
-- exactly what it says.
use Rattle.std.specs.Prelude.{◌≡◌, ℕ, zero, suc, ◌≤◌, List, [], ◌∷◌, length, Option, Some, None, codes, if◌then◌else◌}
use Rattle.std.specs.Str.{bytes_eq}
use Rattle.vf_base.specs.declared.names.Place.{Place}
use Rattle.vf_lexeme.specs.declared.kinds.TokenKind.{TokenKind}
use Rattle.vf_lexeme.specs.declared.kinds.TokenKind.TheVariants as token
use Rattle.vf_tree.specs.declared.expressions.TreeExpr.{TreeExpr}
use Rattle.vf_tree.specs.declared.statements.Target.{Target}
use Rattle.vf_tree.specs.declared.statements.Delay.{Delay}
use Rattle.vf_tree.specs.declared.statements.DelayForm.TheVariants as delay
use Rattle.vf_tree.specs.declared.statements.EdgeWord.{EdgeWord}
use Rattle.vf_tree.specs.declared.statements.Event.{Event}
use Rattle.vf_tree.specs.declared.statements.EventJoin.{EventJoin}
use Rattle.vf_tree.specs.declared.statements.EventJoin.TheVariants as join
use Rattle.vf_tree.specs.declared.statements.NextEvent.{NextEvent}
use Rattle.vf_tree.specs.declared.statements.Events.{Events}
use Rattle.vf_tree.specs.declared.statements.EventsForm.TheVariants as events
use Rattle.vf_tree.specs.declared.statements.Arg.{Arg}
use Rattle.vf_tree.specs.declared.statements.ShowWord.{ShowWord}
use Rattle.vf_tree.specs.declared.statements.SaveWord.{SaveWord}
use Rattle.vf_tree.specs.declared.statements.EndWord.{EndWord}
use Rattle.vf_tree.specs.declared.statements.Task.{Task}
use Rattle.vf_tree.specs.declared.statements.TaskForm.TheVariants as task
use Rattle.vf_expression.specs.Grammar.{Tokens, IsExpr}
use Rattle.vf_expression.specs.Reading.{Read, ◌>>=◌, found_or, is_sign, after, opening_at, selects_at, closed_at, expr_at}
use Rattle.vf_control.specs.Lists.{Part, many_from, list_at}
use Rattle.vf_control.specs.Words.{edge_of, show_of, save_of, end_of}
use Rattle.vf_control.specs.Grammar.{named, joined, delayed, event, waited, quoted_arg, value_arg, called, IsTarget, IsDelay, IsEvents, IsTask}

-- the bytes of a string at the front, its place, and the tokens after it
abbrev pub string_by : TokenKind → Place → Tokens → Option (List ℕ × Place × Tokens)
string_by (token.Quoted text) p rest = Some (text, p, rest)
string_by (token.Name text) p rest = None
string_by (token.System text) p rest = None
string_by (token.Word text) p rest = None
string_by (token.Number value) p rest = None
string_by (token.Sign text) p rest = None

unfoldable pub string_at : Tokens → Option (List ℕ × Place × Tokens)
string_at [] = None
string_at (t ∷ rest) = string_by t.kind t.place rest

-- what joins an event to those before, and the tokens after it
abbrev pub join_by : TokenKind → Tokens → Option (EventJoin × Tokens)
join_by (token.Word text) rest = if bytes_eq text (codes "or") then Some (join.Or, rest) else None
join_by (token.Sign text) rest = if bytes_eq text (codes ",") then Some (join.Comma, rest) else None
join_by (token.Name text) rest = None
join_by (token.System text) rest = None
join_by (token.Number value) rest = None
join_by (token.Quoted text) rest = None

unfoldable pub join_at : Tokens → Option (EventJoin × Tokens)
join_at [] = None
join_at (t ∷ rest) = join_by t.kind rest

-- a concatenation of targets after its `{`; one reads a target
unfoldable pub concat_at : (Tokens → Read Target) → Place → Tokens → Read Target
concat_at one p ts = do
  l ← list_at one ts
  rest ← after (codes "}") l.2
  Some (joined p l.0, l.1, rest)

-- all events, after `(` and `*`
unfoldable pub star_paren : Place → Tokens → Read Events
star_paren p ts = do
  rest ← after (codes ")") ts
  Some (waited p events.StarParen, 0, rest)

-- a task that saves the state, after its name
unfoldable pub save_from : Place → SaveWord → Tokens → Read Task
save_from p w ts = do
  us ← after (codes "(") ts
  s ← string_at us
  rest ← after (codes ")") s.2
  Some (called p (task.Save w (record { text = s.0; place = s.1 })), 0, rest)

-- inner reads an expression of a level
module _ (inner : ℕ → Tokens → Read TreeExpr) where
  -- ---- targets

  unfoldable pub named_at : Place → List ℕ → Tokens → Read Target
  named_at p text ts = do
    s ← selects_at inner ts
    Some (named p text s.0, s.1, s.2)

  -- one reads a target in it
  abbrev pub target_by : (Tokens → Read Target) → TokenKind → Place → Tokens → Read Target
  target_by one (token.Name text) p rest = named_at p text rest
  target_by one (token.Sign text) p rest = if bytes_eq text (codes "{") then concat_at one p rest else None
  target_by one (token.System text) p rest = None
  target_by one (token.Word text) p rest = None
  target_by one (token.Number value) p rest = None
  target_by one (token.Quoted text) p rest = None

  unfoldable pub target_over : (Tokens → Read Target) → Tokens → Read Target
  target_over one [] = None
  target_over one (t ∷ rest) = target_by one t.kind t.place rest

  -- a target of so many targets inside one another at most
  unfoldable pub target_within : ℕ → Tokens → Read Target
  target_within zero ts = None
  target_within (suc e) ts = target_over (target_within e) ts

  abbrev pub target_at : Tokens → Read Target
  target_at ts = target_within 201 ts

  -- ---- delays

  -- after `#` and `(`
  unfoldable pub delay_expr : Place → Tokens → Read Delay
  delay_expr p ts = do
    a ← closed_at inner ts
    Some (delayed p (delay.Expr a.0), a.1, a.2)

  -- the token after `#`
  abbrev pub delay_by : Place → TokenKind → Place → Tokens → Read Delay
  delay_by p (token.Number value) q rest = Some (delayed p (delay.Number (record { value = value; place = q })), 0, rest)
  delay_by p (token.Name text) q rest = Some (delayed p (delay.Name (record { text = text; place = q })), 0, rest)
  delay_by p (token.Sign text) q rest = if bytes_eq text (codes "(") then delay_expr p rest else None
  delay_by p (token.System text) q rest = None
  delay_by p (token.Word text) q rest = None
  delay_by p (token.Quoted text) q rest = None

  unfoldable pub delay_after : Place → Tokens → Read Delay
  delay_after p [] = None
  delay_after p (t ∷ rest) = delay_by p t.kind t.place rest

  unfoldable pub delay_at : Tokens → Read Delay
  delay_at [] = None
  delay_at (t ∷ rest) = if is_sign (codes "#") t.kind then delay_after t.place rest else None

  -- ---- events

  -- a bit of the signal, after its `[`
  unfoldable pub bit_from : Tokens → Read (Option TreeExpr)
  bit_from ts = do
    a ← inner 1 ts
    rest ← after (codes "]") a.2
    Some (Some a.0, a.1, rest)

  unfoldable pub bit_at : Tokens → Read (Option TreeExpr)
  bit_at ts = found_or (after (codes "[") ts) (λ us. bit_from us) (Some (None, 0, ts))

  -- an event after its name
  unfoldable pub named_event : Place → Option EdgeWord → Place → List ℕ → Tokens → Read Event
  named_event p e q text ts = do
    b ← bit_at ts
    Some (event p e q text b.0, b.1, b.2)

  -- an event after its edge
  abbrev pub edged_by : Place → EdgeWord → TokenKind → Place → Tokens → Read Event
  edged_by p e (token.Name text) q rest = named_event p (Some e) q text rest
  edged_by p e (token.Sign text) q rest = None
  edged_by p e (token.System text) q rest = None
  edged_by p e (token.Word text) q rest = None
  edged_by p e (token.Number value) q rest = None
  edged_by p e (token.Quoted text) q rest = None

  unfoldable pub edged_event : Place → EdgeWord → Tokens → Read Event
  edged_event p e [] = None
  edged_event p e (t ∷ rest) = edged_by p e t.kind t.place rest

  unfoldable pub word_event : Place → List ℕ → Tokens → Read Event
  word_event p text ts = do
    e ← edge_of text
    edged_event p e ts

  abbrev pub event_by : TokenKind → Place → Tokens → Read Event
  event_by (token.Name text) p rest = named_event p None p text rest
  event_by (token.Word text) p rest = word_event p text rest
  event_by (token.Sign text) p rest = None
  event_by (token.System text) p rest = None
  event_by (token.Number value) p rest = None
  event_by (token.Quoted text) p rest = None

  unfoldable pub event_at : Tokens → Read Event
  event_at [] = None
  event_at (t ∷ rest) = event_by t.kind t.place rest

  -- an event after what joins it to those before
  unfoldable pub next_event : EventJoin × Tokens → Read NextEvent
  next_event s = do
    a ← event_at s.1
    Some (record { join = s.0; event = a.0 }, a.1, a.2)

  unfoldable pub event_list : Place → Tokens → Read Events
  event_list p ts = do
    a ← event_at ts
    l ← many_from join_at next_event (length a.2) [] a.1 a.2
    rest ← after (codes ")") l.2
    Some (waited p (events.List a.0 l.0), l.1, rest)

  -- after `(`
  unfoldable pub events_paren : Place → Tokens → Read Events
  events_paren p ts = found_or (after (codes "*") ts) (λ us. star_paren p us) (event_list p ts)

  unfoldable pub events_sign : Place → List ℕ → Tokens → Read Events
  events_sign p text rest = if bytes_eq text (codes "*") then Some (waited p events.Star, 0, rest) else if bytes_eq text (codes "(") then events_paren p rest else None

  abbrev pub events_by : TokenKind → Place → Tokens → Read Events
  events_by (token.Name text) p rest = Some (waited p (events.Name (record { text = text; place = p })), 0, rest)
  events_by (token.Sign text) p rest = events_sign p text rest
  events_by (token.System text) p rest = None
  events_by (token.Word text) p rest = None
  events_by (token.Number value) p rest = None
  events_by (token.Quoted text) p rest = None

  unfoldable pub events_at : Tokens → Read Events
  events_at [] = None
  events_at (t ∷ rest) = events_by t.kind t.place rest

  -- ---- system tasks

  unfoldable pub arg_value : Tokens → Read Arg
  arg_value ts = do
    a ← inner 1 ts
    Some (value_arg a.0, a.1, a.2)

  unfoldable pub arg_at : Tokens → Read Arg
  arg_at ts = found_or (string_at ts) (λ s. Some (quoted_arg s.1 s.0, 0, s.2)) (arg_value ts)

  -- the arguments of a task that prints, after its `(`
  unfoldable pub show_args : Place → ShowWord → Tokens → Read Task
  show_args p w ts = do
    l ← list_at arg_at ts
    rest ← after (codes ")") l.2
    Some (called p (task.Show w (Some l.0)), l.1, rest)

  -- a task after its name
  unfoldable pub show_from : Place → ShowWord → Tokens → Read Task
  show_from p w ts = found_or (after (codes "(") ts) (λ us. show_args p w us) (Some (called p (task.Show w None), 0, ts))

  -- the number of a task that ends the run, after its `(`
  unfoldable pub end_number : Place → EndWord → Tokens → Read Task
  end_number p w ts = do
    a ← closed_at inner ts
    Some (called p (task.End w (Some a.0)), a.1, a.2)

  unfoldable pub end_from : Place → EndWord → Tokens → Read Task
  end_from p w ts = found_or (after (codes "(") ts) (λ us. end_number p w us) (Some (called p (task.End w None), 0, ts))

  -- the other tasks, where none that prints is called
  unfoldable pub ended_by : Place → List ℕ → Tokens → Read Task
  ended_by p text ts = do
    w ← end_of text
    end_from p w ts

  unfoldable pub saved_by : Place → List ℕ → Tokens → Read Task
  saved_by p text ts = found_or (save_of text) (λ w. save_from p w ts) (ended_by p text ts)

  unfoldable pub called_by : Place → List ℕ → Tokens → Read Task
  called_by p text ts = found_or (show_of text) (λ w. show_from p w ts) (saved_by p text ts)

  abbrev pub task_by : TokenKind → Place → Tokens → Read Task
  task_by (token.System text) p rest = called_by p text rest
  task_by (token.Name text) p rest = None
  task_by (token.Word text) p rest = None
  task_by (token.Sign text) p rest = None
  task_by (token.Number value) p rest = None
  task_by (token.Quoted text) p rest = None

  unfoldable pub task_at : Tokens → Read Task
  task_at [] = None
  task_at (t ∷ rest) = task_by t.kind t.place rest

-- ---- what the readers read

-- A reader and its rule: what is read is a tree of the rule, and each is read where no token follows that may belong to it. The
-- expressions in it are of depth d at most.
pub record Reads {A : Type 0} (d : ℕ) (One : Part A) (Follow : Tokens → Type 0) (one : Tokens → Read A) : Type 0 where
  pub sound : (ts : Tokens) (x : A × ℕ × Tokens) → one ts ≡ Some x → One x.1 ts x.2 x.0
  pub complete : (n : ℕ) (ts rest : Tokens) (a : A) → One n ts rest a → n ≤ d → Follow rest → one ts ≡ Some (a, n, rest)

-- no `[` may follow a target, which may have further selects
abbrev pub EndsTarget : Tokens → Type 0
EndsTarget rest = opening_at rest ≡ None

-- anything may follow a delay or events
abbrev pub EndsAnyhow : Tokens → Type 0
EndsAnyhow rest = Unit {0}

-- no `(` may follow a task, which may be called without arguments
abbrev pub EndsTask : Tokens → Type 0
EndsTask rest = after (codes "(") rest ≡ None

pub record ReadingsAreControls (d : ℕ) : Type 0 where
  pub target : Reads d (IsTarget (IsExpr d)) EndsTarget (target_at (expr_at d))
  pub delay : Reads d (IsDelay (IsExpr d)) EndsAnyhow (delay_at (expr_at d))
  pub events_after : Reads d (IsEvents (IsExpr d)) EndsAnyhow (events_at (expr_at d))
  pub task : Reads d (IsTask (IsExpr d)) EndsTask (task_at (expr_at d))
