use Rattle.std.proofs.Common.{◌∙◌, sym, ap, List, slice_get}
use Rattle.sa_ir.specs.declared.table.Section.{Section}
use Rattle.sa_ir.proofs.TableLemmas.{section-none, section-some}
use Rattle.sa_ir.proofs.table.Sections.vars.Goals as goal

pub returns-in-None : goal.returns-in-None
returns-in-None c = sym (ap (λ (s : Section). s.vars) (section-none c.args.self.now c.args.home c.in-Local.f c.in-Local.is (sym (c.in-None.ensures ∙ ap (λ (l : List Section). slice_get l c.in-Local.f) c.as_slice-in-Local.ensures.value))))

pub returns-in-Some : goal.returns-in-Some
returns-in-Some c = c.as_slice-in-Some.ensures ∙ sym (ap (λ (s : Section). s.vars) (section-some c.args.self.now c.args.home c.in-Local.f c.in-Some.section.now c.in-Local.is (sym (c.in-Some.ensures ∙ ap (λ (l : List Section). slice_get l c.in-Local.f) c.as_slice-in-Local.ensures.value))))
