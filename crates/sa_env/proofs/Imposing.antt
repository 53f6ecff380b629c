-- What imposing a term comes to in the cases that the code tells apart.
use Rattle.std.proofs.Common.{◌≡◌, ◌∙◌, ℕ, ◌<◌, ℤ, ◌-ℤ◌, ap, sym, subst, List, length, get_or, Option, Some, None}
use Rattle.std.proofs.lemmas.List.{get_or_default}
use Rattle.sa_interval.specs.Span.{Span, IsPart}
use Rattle.sa_env.specs.declared.form.Form.{Form}
use Rattle.sa_env.specs.declared.form.Term.{Term}
use Rattle.sa_env.specs.Flat.{Flat, dead, cell_of, IsIn}
use Rattle.sa_env.specs.SlotLaws.{part_on}
use Rattle.sa_env.specs.Forms.{cut, cut_some, narrowed, term_imposed, cut_by, terms_imposed, imposed}

-- a cell that the environment doesn't have, or without a number that is left
pub imposed_none : (t : Term) (k : ℤ) (e : Flat) → None ≡ cell_of t.cell e → dead ≡ term_imposed t k e
imposed_none t k e h = ap (λ o. narrowed t.cell (cut_some t.plus k o) e) h

pub imposed_cut : (t : Term) (k : ℤ) (e : Flat) (s : Span) (o : Option Span) → Some s ≡ cell_of t.cell e → o ≡ cut t.plus k s → narrowed t.cell o e ≡ term_imposed t k e
imposed_cut t k e s o h g = ap (λ o. narrowed t.cell o e) g ∙ ap (λ o. narrowed t.cell (cut_some t.plus k o) e) h

-- a part of what lies in a cell's range is a part of that range
pub part_of_range : (tops : List Span) (k : ℕ) (s t : Span) → k < length tops → IsPart t s → IsIn (get_or tops k s) s → IsPart t (get_or tops k t)
part_of_range tops k s t h p i =
    subst (λ (r : Span). IsPart t r) (get_or_default tops k s t h)
    (part_on t s (get_or tops k s) p i.part)

-- ---- two terms
pub imposed_first : (f : Form) (k : ℤ) (e : Flat) (t : Term) → f.first ≡ Some t → f.second ≡ None → term_imposed t (k -ℤ f.c) e ≡ imposed f k e
unfolding imposed
imposed_first f k e t a b = sym (ap (λ o. terms_imposed o f.second (k -ℤ f.c) e) a ∙ ap (λ o. terms_imposed (Some t) o (k -ℤ f.c) e) b)

pub imposed_second : (f : Form) (k : ℤ) (e : Flat) (u : Term) → f.first ≡ None → f.second ≡ Some u → term_imposed u (k -ℤ f.c) e ≡ imposed f k e
unfolding imposed
imposed_second f k e u a b = sym (ap (λ o. terms_imposed o f.second (k -ℤ f.c) e) a ∙ ap (λ o. terms_imposed None o (k -ℤ f.c) e) b)

pub imposed_both : (f : Form) (k : ℤ) (e : Flat) (t u : Term) → f.first ≡ Some t → f.second ≡ Some u → cut_by u t (k -ℤ f.c) (cut_by t u (k -ℤ f.c) e) ≡ imposed f k e
unfolding imposed
imposed_both f k e t u a b = sym (ap (λ o. terms_imposed o f.second (k -ℤ f.c) e) a ∙ ap (λ o. terms_imposed (Some t) o (k -ℤ f.c) e) b)

pub imposed_nothing : (f : Form) (k : ℤ) (e : Flat) → f.first ≡ None → f.second ≡ None → e ≡ imposed f k e
unfolding imposed
imposed_nothing f k e a b = sym (ap (λ o. terms_imposed o f.second (k -ℤ f.c) e) a ∙ ap (λ o. terms_imposed None o (k -ℤ f.c) e) b)
