-- Items of a source one after another, and what the reader's answer says of the grammar.
use Rattle.std.proofs.Common.{◌≡◌, ℕ, zero, suc, ◌-◌, List, [], ◌∷◌, ◌++◌, true, false, refl, sym, ap, ◌∙◌, length, length-append, arith}
use Rattle.std.specs.Prelude.{◌≢◌, slice_get}
use Rattle.sa_base.specs.declared.pos.Pos.{Pos}
use Rattle.sa_cursor.specs.declared.fault.Stop.{Stop}
use Rattle.sa_cursor.specs.declared.fault.Stop.TheVariants as stop
use Rattle.sa_cursor.specs.Outcome.{stopped}
use Rattle.sa_parser.specs.Faults.{IsFault}
use Rattle.sa_parser.specs.Parts.{fault_at, place_of}
use Rattle.sa_tokens.specs.declared.token.Token.{Token}
use Rattle.sa_syntax.specs.declared.unit.Item.{Item}
use Rattle.sa_syntax.specs.Words.{Names}
use Rattle.sa_syntax.specs.Reading.{Read, Got, Stuck, Deep, and_then, turns}
use Rattle.sa_syntax.specs.ReadStmt.{an_item, names_after, items_from, source}
use Rattle.sa_syntax.specs.Trees as tree
use Rattle.sa_syntax.specs.Refusals.{most_open, IsTooDeep, HasNoTextFrom, place_at}
use Rattle.sa_syntax.specs.RefusalLaws.{TellsDepth, TellsPlace}
use Rattle.sa_cursor.specs.Cursor.{is_end}

pub items_end : (n k : ℕ) (ns : Names) (found : List Item) (ts : List Token) → is_end ts ≡ true → items_from n (suc k) ns found ts ≡ Got found ts
unfolding items_from
items_end n k ns found [] h = refl
items_end n k ns found (t ∷ ts) h = cc

pub items_go : (n k : ℕ) (ns : Names) (found : List Item) (ts : List Token) → is_end ts ≡ false →
    items_from n (suc k) ns found ts ≡ and_then (an_item ns n ts) (λ x us. items_from n k (names_after ns x) (found ++ x ∷ []) us)
unfolding items_from
items_go n k ns found [] h = cc
items_go n k ns found (t ∷ ts) h = refl

pub items_out : (n : ℕ) (ns : Names) (found : List Item) (ts : List Token) → items_from n 0 ns found ts ≡ Stuck ts
unfolding items_from
items_out n ns found ts = refl

source_is : (n : ℕ) (ts : List Token) → source n ts ≡ and_then (items_from n (turns ts) [] [] ts) (λ is us. Got (tree.source is) us)
unfolding source
source_is n ts = refl

pub source_got : (n : ℕ) (ts us : List Token) (is : List Item) → items_from n (turns ts) [] [] ts ≡ Got is us → source n ts ≡ Got (tree.source is) us
source_got n ts us is h = source_is n ts ∙ ap (λ (r : Read (List Item)). and_then r (λ is us. Got (tree.source is) us)) h

pub source_stuck : (n : ℕ) (ts us : List Token) → items_from n (turns ts) [] [] ts ≡ Stuck us → source n ts ≡ Stuck us
source_stuck n ts us h = source_is n ts ∙ ap (λ (r : Read (List Item)). and_then r (λ is us. Got (tree.source is) us)) h

pub source_deep : (n : ℕ) (ts us : List Token) → items_from n (turns ts) [] [] ts ≡ Deep us → source n ts ≡ Deep us
source_deep n ts us h = source_is n ts ∙ ap (λ (r : Read (List Item)). and_then r (λ is us. Got (tree.source is) us)) h

-- ---- places
append_length : (b us : List Token) → length (b ++ us) - length us ≡ length b
append_length b us = let n = length-append b us in omega (arith, n)

behind_front : (end : Pos) (b us : List Token) → place_of end (slice_get (b ++ us) (length b)) ≡ place_at end us
behind_front end [] [] = refl
behind_front end [] (t ∷ us) = refl
behind_front end (x ∷ b) us = behind_front end b us

-- the token of that number is the first of what is left
pub token_place : (end : Pos) (b us ts : List Token) (k : ℕ) → ts ≡ b ++ us → k ≡ length ts - length us → place_of end (slice_get ts k) ≡ place_at end us
token_place end b us ts k e h =
    let n : k ≡ length b = h ∙ ap (λ z. length z - length us) e ∙ append_length b us in
    ap (λ z. place_of end (slice_get z k)) e ∙ ap (λ i. place_of end (slice_get (b ++ us) i)) n ∙ behind_front end b us

-- ---- what is refused
stuck_from : TellsPlace → (ts us : List Token) (end p : Pos) (k : ℕ) → items_from most_open (turns ts) [] [] ts ≡ Stuck us → k ≡ length ts - length us → p ≡ place_of end (slice_get ts k) → HasNoTextFrom end ts p
stuck_from tells ts us end p k h n at =
    let f = tells most_open ts us (source_stuck most_open ts us h) in
    record { rest = us; fails = f; place = at ∙ token_place end f.before us ts k f.is n }

deep_at : (ts us : List Token) (end p : Pos) (k : ℕ) (d : IsTooDeep ts) → us ≡ d.token ∷ d.after → k ≡ length ts - length us → p ≡ place_of end (slice_get ts k) → p ≡ d.token.pos
deep_at ts us end p k d e n at = at ∙ token_place end d.before us ts k (d.is ∙ ap (λ z. d.before ++ z) (sym e)) n ∙ ap (place_at end) e

deep_from : TellsDepth → (ts us : List Token) (end p : Pos) (k : ℕ) → items_from most_open (turns ts) [] [] ts ≡ Deep us → k ≡ length ts - length us → p ≡ place_of end (slice_get ts k) → (d : IsTooDeep ts) × (p ≡ d.token.pos)
deep_from tells ts us end p k h n at = let d = tells most_open ts us (source_deep most_open ts us h) in (d.0, deep_at ts us end p k (d.0) (d.1) n at)

pub refused : TellsPlace → TellsDepth → (ts us : List Token) (end p : Pos) (k : ℕ) (s : Stop) →
    (s ≢ stop.OutOfMemory → items_from most_open (turns ts) [] [] ts ≡ stopped s us) → k ≡ length ts - length us → p ≡ place_of end (slice_get ts k) → IsFault ts end (fault_at s p)
refused place depth ts us end p k stop.Syntax h n at = stuck_from place ts us end p k (h (λ e. cc)) n at
refused place depth ts us end p k stop.TooDeep h n at = deep_from depth ts us end p k (h (λ e. cc)) n at
refused place depth ts us end p k stop.OutOfMemory h n at = tt
