-- The loop over the functions that one calls.
use Rattle.std.proofs.Common.{◌≡◌, ℕ, ◌+◌, ◌<◌, ◌≤◌, Bool, List, length, drop, get_or, sym, ap, ◌∙◌}
use Rattle.std.proofs.lemmas.List.{drop_more, drop_all}
use Rattle.sa_calls.specs.declared.graph.Call.{Call}
use Rattle.sa_calls.specs.Recursion.{marks_after, order_after, marks_all, order_all}

pub marks-more : (whole old new : List Bool) (cs : List Call) (i : ℕ) (d : Call) → i < length cs → new ≡ marks_after (get_or cs i d).func old →
    marks_all (drop i cs) old ≡ whole → marks_all (drop (i + 1) cs) new ≡ whole
unfolding marks_all
marks-more whole old new cs i d h e left = ap (marks_all (drop (i + 1) cs)) e ∙ sym (ap (λ (xs : List Call). marks_all xs old) (drop_more cs i d h)) ∙ left

pub order-more : (whole : List ℕ) (old new : List Bool) (before after : List ℕ) (cs : List Call) (i : ℕ) (d : Call) → i < length cs → new ≡ marks_after (get_or cs i d).func old → after ≡ order_after (get_or cs i d).func old before →
    order_all (drop i cs) old before ≡ whole → order_all (drop (i + 1) cs) new after ≡ whole
unfolding order_all
order-more whole old new before after cs i d h e f left =
    ap (λ (ms : List Bool). order_all (drop (i + 1) cs) ms after) e ∙ ap (order_all (drop (i + 1) cs) (marks_after (get_or cs i d).func old)) f
    ∙ sym (ap (λ (xs : List Call). order_all xs old before) (drop_more cs i d h)) ∙ left

pub marks-end : (whole marks : List Bool) (cs : List Call) (i : ℕ) → length cs ≤ i → marks_all (drop i cs) marks ≡ whole → marks ≡ whole
unfolding marks_all
marks-end whole marks cs i h left = sym (ap (λ (xs : List Call). marks_all xs marks) (drop_all i cs h)) ∙ left

pub order-end : (whole : List ℕ) (marks : List Bool) (order : List ℕ) (cs : List Call) (i : ℕ) → length cs ≤ i → order_all (drop i cs) marks order ≡ whole → order ≡ whole
unfolding order_all
order-end whole marks order cs i h left = sym (ap (λ (xs : List Call). order_all xs marks order) (drop_all i cs h)) ∙ left
