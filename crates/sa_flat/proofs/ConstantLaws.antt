-- A constant expression with a value gives it in every execution, and takes nothing of the tape.
use Rattle.std.proofs.Common.{◌≡◌, ℤ, pos, Bool, true, false, ◌&&◌, List, refl, ap}
use Rattle.std.specs.Prelude.{if◌then◌else◌, Result, Ok, Err}
use Rattle.sa_base.specs.declared.alarm.Kind.{Kind}
use Rattle.sa_base.specs.declared.pos.Pos.{Pos}
use Rattle.sa_typed.specs.Arithmetic.{operate, prefixed, converted, as_num}
use Rattle.sa_typed.specs.Constants.{is_constant, all_are_constant, are_constant, constant_value, constant_ands, constant_ors, constant_links, then_ok}
use Rattle.sa_typed.specs.Evaluation.{Value, Gives, Setting, Here, Store, then_value, given, is_zero, eval, and_value, or_value, links_value}
use Rattle.sa_typed.specs.declared.expr.Expr.{Expr, Number, Read', Input, Prefix', Cast', Chain', And', Or', Choice', end_of-Expr, more_of-Expr, Row_of-Expr, Row_of-Link, end_of-Link, more_of-Link}
use Rattle.sa_flat.proofs.Operands.{and_left, and_right}

abbrev pub Exact : Result ℤ Kind → Value ℤ → List ℤ → Type 0
Exact r v tape = (z : ℤ) → r ≡ Ok z → v ≡ Gives z tape

abbrev value_ok : ℤ → Result ℤ Kind
value_ok z = Ok z

abbrev value_of : ℤ → List ℤ → Value ℤ
value_of z tape = Gives z tape

ok_same : (x z : ℤ) (tape : List ℤ) → value_ok x ≡ value_ok z → value_of x tape ≡ Gives z tape
ok_same x z tape e = let k : x ≡ z = cc in ap (λ (z : ℤ). value_of z tape) k

given_exact : (p : Pos) (r : Result ℤ Kind) (tape : List ℤ) → Exact r (given p r tape) tape
given_exact p (Ok x) tape z e = ok_same x z tape e
given_exact p (Err kind) tape z e = cc

-- one after another
on_exact : (r : Result ℤ Kind) (f : ℤ → Result ℤ Kind) (v : Value ℤ) (go : ℤ → List ℤ → Value ℤ) (tape : List ℤ) → Exact r v tape → ((x : ℤ) → Exact (f x) (go x tape) tape) → Exact (then_ok r f) (then_value v go) tape
on_exact (Ok x) f v go tape h k z e = rw (h x refl) (k x z e)
on_exact (Err kind) f v go tape h k z e = cc

if_exact : (b : Bool) (r s : Result ℤ Kind) (v w : Value ℤ) (tape : List ℤ) → Exact r v tape → Exact s w tape → Exact (if b then r else s) (if b then v else w) tape
if_exact true r s v w tape h k = h
if_exact false r s v w tape h k = k

ok_exact : (x : ℤ) (tape : List ℤ) → Exact (Ok x) (Gives x tape) tape
ok_exact x tape z e = ok_same x z tape e

module _ (w : Setting) (here : Here) (store : Store) where
  mutual
    unfolding eval is_constant constant_value

    pub exact : (a : Expr) → is_constant a ≡ true → (tape : List ℤ) → Exact (constant_value a) (eval w here store a tape) tape
    exact (Number n num) h tape = ok_exact (pos n) tape
    exact (Read' v n steps num) h tape = cc
    exact (Input k num) h tape = cc
    exact (Prefix' op p num n (more_of-Expr a end_of-Expr)) h tape =
        on_exact (constant_value a) (prefixed op num) (eval w here store a tape) (λ x tape. given p (prefixed op num x) tape) tape (exact a h tape) (λ x. given_exact p (prefixed op num x) tape)
    exact (Cast' p num n (more_of-Expr a end_of-Expr)) h tape =
        on_exact (constant_value a) (converted num) (eval w here store a tape) (λ x tape. given p (converted num x) tape) tape (exact a h tape) (λ x. given_exact p (converted num x) tape)
    exact (Chain' n (more_of-Expr a end_of-Expr) m ls) h tape =
        links_exact ls (and_right (is_constant a) (are_constant ls) h) (constant_value a) (eval w here store a tape) tape (exact a (and_left (is_constant a) (are_constant ls) h) tape)
    exact (And' n (more_of-Expr a end_of-Expr) m rest) h tape =
        ands_exact rest (and_right (is_constant a) (all_are_constant rest) h) (constant_value a) (eval w here store a tape) tape (exact a (and_left (is_constant a) (all_are_constant rest) h) tape)
    exact (Or' n (more_of-Expr a end_of-Expr) m rest) h tape =
        ors_exact rest (and_right (is_constant a) (all_are_constant rest) h) (constant_value a) (eval w here store a tape) tape (exact a (and_left (is_constant a) (all_are_constant rest) h) tape)
    exact (Choice' n (more_of-Expr a end_of-Expr) m (more_of-Expr b end_of-Expr) l (more_of-Expr c end_of-Expr) num) h tape =
        let k = and_right (is_constant a) (is_constant b && is_constant c) h in
        on_exact (constant_value a) (λ x. then_ok (if is_zero x then constant_value c else constant_value b) (λ z. Ok (as_num num z))) (eval w here store a tape)
        (λ x tape. then_value (if is_zero x then eval w here store c tape else eval w here store b tape) (λ y tape. Gives (as_num num y) tape)) tape
        (exact a (and_left (is_constant a) (is_constant b && is_constant c) h) tape)
        (λ x. on_exact (if is_zero x then constant_value c else constant_value b) (λ z. Ok (as_num num z)) (if is_zero x then eval w here store c tape else eval w here store b tape) (λ y tape. Gives (as_num num y) tape) tape
        (if_exact (is_zero x) (constant_value c) (constant_value b) (eval w here store c tape) (eval w here store b tape) tape
        (exact c (and_right (is_constant b) (is_constant c) k) tape) (exact b (and_left (is_constant b) (is_constant c) k) tape)) (λ y. ok_exact (as_num num y) tape))

    ands_exact : {n : _} (rest : Row_of-Expr n) → all_are_constant rest ≡ true → (r : Result ℤ Kind) (v : Value ℤ) (tape : List ℤ) → Exact r v tape → Exact (constant_ands rest r) (and_value w here store rest v) tape
    ands_exact end_of-Expr h r v tape k =
        on_exact r (λ x. if is_zero x then Ok (pos 0) else Ok (pos 1)) v (λ x tape. if is_zero x then Gives (pos 0) tape else Gives (pos 1) tape) tape k
        (λ x. if_exact (is_zero x) (Ok (pos 0)) (Ok (pos 1)) (Gives (pos 0) tape) (Gives (pos 1) tape) tape (ok_exact (pos 0) tape) (ok_exact (pos 1) tape))
    ands_exact (more_of-Expr b rest) h r v tape k =
        on_exact r (λ x. if is_zero x then Ok (pos 0) else constant_ands rest (constant_value b)) v (λ x tape. if is_zero x then Gives (pos 0) tape else and_value w here store rest (eval w here store b tape)) tape k
        (λ x. if_exact (is_zero x) (Ok (pos 0)) (constant_ands rest (constant_value b)) (Gives (pos 0) tape) (and_value w here store rest (eval w here store b tape)) tape (ok_exact (pos 0) tape)
        (ands_exact rest (and_right (is_constant b) (all_are_constant rest) h) (constant_value b) (eval w here store b tape) tape (exact b (and_left (is_constant b) (all_are_constant rest) h) tape)))

    ors_exact : {n : _} (rest : Row_of-Expr n) → all_are_constant rest ≡ true → (r : Result ℤ Kind) (v : Value ℤ) (tape : List ℤ) → Exact r v tape → Exact (constant_ors rest r) (or_value w here store rest v) tape
    ors_exact end_of-Expr h r v tape k =
        on_exact r (λ x. if is_zero x then Ok (pos 0) else Ok (pos 1)) v (λ x tape. if is_zero x then Gives (pos 0) tape else Gives (pos 1) tape) tape k
        (λ x. if_exact (is_zero x) (Ok (pos 0)) (Ok (pos 1)) (Gives (pos 0) tape) (Gives (pos 1) tape) tape (ok_exact (pos 0) tape) (ok_exact (pos 1) tape))
    ors_exact (more_of-Expr b rest) h r v tape k =
        on_exact r (λ x. if is_zero x then constant_ors rest (constant_value b) else Ok (pos 1)) v (λ x tape. if is_zero x then or_value w here store rest (eval w here store b tape) else Gives (pos 1) tape) tape k
        (λ x. if_exact (is_zero x) (constant_ors rest (constant_value b)) (Ok (pos 1)) (or_value w here store rest (eval w here store b tape)) (Gives (pos 1) tape) tape
        (ors_exact rest (and_right (is_constant b) (all_are_constant rest) h) (constant_value b) (eval w here store b tape) tape (exact b (and_left (is_constant b) (all_are_constant rest) h) tape))
        (ok_exact (pos 1) tape))

    links_exact : {n : _} (ls : Row_of-Link n) → are_constant ls ≡ true → (r : Result ℤ Kind) (v : Value ℤ) (tape : List ℤ) → Exact r v tape → Exact (constant_links ls r) (links_value w here store ls v) tape
    links_exact end_of-Link h r v tape k = k
    links_exact (more_of-Link op p num b rest) h r v tape k =
        links_exact rest (and_right (is_constant b) (are_constant rest) h) (then_ok r (λ x. then_ok (constant_value b) (operate op num x)))
        (then_value v (λ x tape. then_value (eval w here store b tape) (λ y tape. given p (operate op num x y) tape))) tape
        (on_exact r (λ x. then_ok (constant_value b) (operate op num x)) v (λ x tape. then_value (eval w here store b tape) (λ y tape. given p (operate op num x y) tape)) tape k
        (λ x. on_exact (constant_value b) (operate op num x) (eval w here store b tape) (λ y tape. given p (operate op num x y) tape) tape (exact b (and_left (is_constant b) (are_constant rest) h) tape)
        (λ y. given_exact p (operate op num x y) tape)))
