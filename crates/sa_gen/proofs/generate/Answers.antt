use Rattle.std.proofs.Common.{rules, ◌≡◌, ◌++◌, append_assoc}
use Rattle.sa_gen.specs.Source.{opening, declaration, beginning, modulus, choice, case_line, waiting, ending, lines_from, source_of}
use Rattle.sa_gen.proofs.generate.Goals as goal

pub returns : goal.returns
unfolding source_of
returns c =
    let n = c.args.n in
    let a : c.in_ok-text.text.items ≡ opening = search rules in
    let b : c.push_declarations.new.text.items ≡ c.in_ok-text.text.items ++ lines_from declaration n 0 = search rules in
    let d : c.push_text.new.text.items ≡ c.push_declarations.new.text.items ++ beginning = c.in_ok-push_text.ensures in
    let e : c.push_modulus.new.text.items ≡ c.push_text.new.text.items ++ modulus n = search rules in
    let f : c.push_text-2.new.text.items ≡ c.push_modulus.new.text.items ++ choice = c.in_ok-push_text-2.ensures in
    let h : c.push_cases.new.text.items ≡ c.push_text-2.new.text.items ++ lines_from case_line n 0 = search rules in
    let i : c.push_text-3.new.text.items ≡ c.push_cases.new.text.items ++ waiting = c.in_ok-push_text-3.ensures in
    let j : c.push_text-4.new.text.items ≡ c.push_text-3.new.text.items ++ ending = c.in_ok-push_text-4.ensures in
    rw (j, i, h, f, e, d, b, a) (simp append_assoc)
