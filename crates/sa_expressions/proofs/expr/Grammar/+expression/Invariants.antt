use Rattle.std.proofs.Common.{◌≡◌, ◌+◌, ◌-◌, ◌*◌}
use Rattle.sa_tokens.specs.declared.punct.Punct.TheVariants as m
use Rattle.sa_syntax.specs.Reading.{many, while_from, sees, Got}
use Rattle.sa_syntax.specs.ReadExpr as read
use Rattle.sa_syntax.specs.ReadExpr.{inside}
use Rattle.sa_expressions.proofs.expr.Grammar.+expression.Given as goal

abbrev pub decreases-base : goal.decreases-base
decreases-base l = l.room * 60 + 9

abbrev pub decreases-body : goal.decreases-body
decreases-body l = l.room * 60 + 7

abbrev pub decreases-bound : goal.decreases-bound
decreases-bound l = l.room * 60 + 32

abbrev pub decreases-bounds : goal.decreases-bounds
decreases-bounds l = l.room * 60 + 33

abbrev pub decreases-bracketed : goal.decreases-bracketed
decreases-bracketed l = l.room * 60 + 13

abbrev pub decreases-declr : goal.decreases-declr
decreases-declr l = l.room * 60 + 34

abbrev pub decreases-declrs : goal.decreases-declrs
decreases-declrs l = l.room * 60 + 37

abbrev pub decreases-field : goal.decreases-field
decreases-field l = l.room * 60 + 38

abbrev pub decreases-fields : goal.decreases-fields
decreases-fields l = l.room * 60 + 40

abbrev pub decreases-more_declrs : goal.decreases-more_declrs
decreases-more_declrs l = l.room * 60 + 36

abbrev pub decreases-more_fields : goal.decreases-more_fields
decreases-more_fields l = l.room * 60 + 39

abbrev pub decreases-next_declr : goal.decreases-next_declr
decreases-next_declr l = l.room * 60 + 35

abbrev pub decreases-place : goal.decreases-place
decreases-place l = l.room * 60 + 11

abbrev pub decreases-place_expr : goal.decreases-place_expr
decreases-place_expr l = l.room * 60 + 12

abbrev pub decreases-prefixed : goal.decreases-prefixed
decreases-prefixed l = l.room * 60 + 13

abbrev pub decreases-specifiers : goal.decreases-specifiers
decreases-specifiers l = l.room * 60 + 10

abbrev pub decreases-step : goal.decreases-step
decreases-step l = l.room * 60 + 9

abbrev pub decreases-steps : goal.decreases-steps
decreases-steps l = l.room * 60 + 10

abbrev pub decreases-struct_or_tag : goal.decreases-struct_or_tag
decreases-struct_or_tag l = l.room * 60 + 8

abbrev pub decreases-unary : goal.decreases-unary
decreases-unary l = l.room * 60 + 14

abbrev pub decreases-whole : goal.decreases-whole
decreases-whole l = l.room * 60 + 50

abbrev pub decreases-ranked : goal.decreases-ranked
decreases-ranked l = l.room * 60 + (l.level * 3 + 15)

abbrev pub decreases-links : goal.decreases-links
decreases-links l = l.room * 60 + (l.level * 3 + 14)

abbrev pub decreases-link : goal.decreases-link
decreases-link l = l.room * 60 + (l.level * 3 + 13)

abbrev pub invariant-links-loop-turn : goal.invariant-links-loop-turn
invariant-links-loop-turn l = many (read.sees_operator l.fn.level) (read.a_link l.fn.self.names.now l.fn.room (inside l.fn.self.names.now l.fn.room) (read.ranked l.fn.self.names.now l.fn.room (inside l.fn.self.names.now l.fn.room) (l.fn.level - 1))) l.fn.tokens ≡ while_from (read.sees_operator l.fn.level) (read.a_link l.fn.self.names.now l.fn.room (inside l.fn.self.names.now l.fn.room) (read.ranked l.fn.self.names.now l.fn.room (inside l.fn.self.names.now l.fn.room) (l.fn.level - 1))) (l._turn-end - l._turn) l.found l.tokens

abbrev pub invariant-steps-loop-turn : goal.invariant-steps-loop-turn
invariant-steps-loop-turn l = many (read.sees_step) (read.a_step l.fn.self.names.now l.fn.room (inside l.fn.self.names.now l.fn.room)) l.fn.tokens ≡ while_from (read.sees_step) (read.a_step l.fn.self.names.now l.fn.room (inside l.fn.self.names.now l.fn.room)) (l._turn-end - l._turn) l.found l.tokens

abbrev pub invariant-more_fields-loop-turn : goal.invariant-more_fields-loop-turn
invariant-more_fields-loop-turn l = many (read.no_brace l.fn.self.names.now l.fn.room (inside l.fn.self.names.now l.fn.room)) (read.field l.fn.self.names.now l.fn.room (inside l.fn.self.names.now l.fn.room)) l.fn.tokens ≡ while_from (read.no_brace l.fn.self.names.now l.fn.room (inside l.fn.self.names.now l.fn.room)) (read.field l.fn.self.names.now l.fn.room (inside l.fn.self.names.now l.fn.room)) (l._turn-end - l._turn) l.found l.tokens

abbrev pub invariant-more_declrs-loop-turn : goal.invariant-more_declrs-loop-turn
invariant-more_declrs-loop-turn l = many (sees m.Comma) (read.next_declr l.fn.self.names.now l.fn.room (inside l.fn.self.names.now l.fn.room)) l.fn.tokens ≡ while_from (sees m.Comma) (read.next_declr l.fn.self.names.now l.fn.room (inside l.fn.self.names.now l.fn.room)) (l._turn-end - l._turn) l.found l.tokens

abbrev pub invariant-bounds-loop-turn : goal.invariant-bounds-loop-turn
invariant-bounds-loop-turn l = many (sees m.OpenBracket) (read.a_bound l.fn.self.names.now l.fn.room (inside l.fn.self.names.now l.fn.room)) l.fn.tokens ≡ while_from (sees m.OpenBracket) (read.a_bound l.fn.self.names.now l.fn.room (inside l.fn.self.names.now l.fn.room)) (l._turn-end - l._turn) l.found l.tokens

abbrev pub invariant-ranked-loop-below : goal.invariant-ranked-loop-below
invariant-ranked-loop-below l = read.ranked l.fn.self.names.now l.fn.room (inside l.fn.self.names.now l.fn.room) l.below l.fn.tokens ≡ Got l.value l.tokens
