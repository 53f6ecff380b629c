-- A program that a shelf holds for sure is reported.
use Rattle.std.proofs.Common.{◌≡◌, ℕ, List, Bool, Option, Some, None, refl, subst}
use Rattle.std.specs.Prelude.{IsTrue}
use Rattle.sa_base.specs.declared.status.Status.{Status}
use Rattle.sa_base.specs.declared.status.Status.TheVariants as s
use Rattle.sa_outside.specs.Causes.{Rose}
use Rattle.sa_outside.specs.Files.{Files}
use Rattle.sa_outside.specs.Writing.{Appends}
use Rattle.sa_typed.specs.declared.program.Program.{Program}
use Rattle.sa_top.specs.Accepted.{IsAccepted}
use Rattle.sa_top.specs.Answer.{Answer, AsSource, Misses, name_of, named_answer, content_of, IsWithin, report_status, report_of}
use Rattle.sa_top.specs.Top.{Answers, Wrote, WroteWhole, IsMissing, HoldsProgram, Stays, Reported}
use Rattle.sa_top.proofs.AnswerLaws.{accepted-answer}

named-source : (files : Files) (name : Option (List ℕ)) (source : List ℕ) → content_of files name ≡ Some source → named_answer name (content_of files name) ≡ AsSource source
named-source files None source e = absurd (cc)
named-source files (Some name) source e = rw e refl

whole : (source : List ℕ) (p : Program) (status : Status) (before after : Option (List ℕ)) → IsWithin source → IsAccepted source p → WroteWhole (AsSource source) status before after → (status ≡ report_status p) × Appends before after (report_of p)
whole source p status before after w i h =
    let e = accepted-answer source p status h.text w i h.fits in
    (e.0, subst (λ (t : List ℕ). Appends before after t) e.1 h.appends)

reported : (source : List ℕ) (p : Program) (status : Status) (before after : Option (List ℕ)) → IsWithin source → IsAccepted source p → (status ≡ s.ReadFault → ⊥) → (status ≡ s.WriteFault → ⊥) →
    Wrote (AsSource source) status before after → Reported p status before after
reported source p s.ReadFault before after w i r f h = absurd (r refl)
reported source p s.WriteFault before after w i r f h = absurd (f refl)
reported source p s.OutOfMemory before after w i r f h = h
reported source p s.Clean before after w i r f h = whole source p s.Clean before after w i h
reported source p s.Alarmed before after w i r f h = whole source p s.Alarmed before after w i h
reported source p s.Usage before after w i r f h = whole source p s.Usage before after w i h
reported source p s.SourceRefused before after w i r f h = whole source p s.SourceRefused before after w i h
reported source p s.RangesRefused before after w i r f h = whole source p s.RangesRefused before after w i h
reported source p s.Limit before after w i r f h = whole source p s.Limit before after w i h

not-missing : (a : Answer) (source : List ℕ) → a ≡ AsSource source → a ≡ Misses → ⊥
not-missing a source e m = cc

over-files : (files : Files) (words : List (List ℕ)) (source : List ℕ) (p : Program) (was now : ℕ) (status : Status) (before after : Option (List ℕ)) →
    content_of files (name_of words) ≡ Some source → IsWithin source → IsAccepted source p →
    Answers (Some files) words status before after → (status ≡ s.ReadFault → IsMissing (Some files) words) → (status ≡ s.WriteFault → Rose was now) → Stays was now → Reported p status before after
over-files files words source p was now status before after e w i a missing write stays =
    let answer = named-source files (name_of words) source e in
    let wrote : Wrote (named_answer (name_of words) (content_of files (name_of words))) status before after =
    subst (λ (c : Option (List ℕ)). Wrote (named_answer (name_of words) c) status before after) a.told a.wrote in
    reported source p status before after w i
    (λ r. not-missing (named_answer (name_of words) (content_of files (name_of words))) source answer (missing r))
    (λ r. stays (write r))
    (subst (λ (x : Answer). Wrote x status before after) answer wrote)

pub completes : (sure : Bool) (told : Option Files) (words : List (List ℕ)) (was now : ℕ) (status : Status) (before after : Option (List ℕ)) →
    Answers told words status before after → (IsTrue sure → status ≡ s.ReadFault → IsMissing told words) → (status ≡ s.WriteFault → Rose was now) →
    (p : Program) → HoldsProgram sure told words p → Stays was now → Reported p status before after
completes sure told words was now status before after a missing write p h stays =
    over-files h.files words h.source p was now status before after h.holds h.within h.accepted
    (subst (λ (t : Option Files). Answers t words status before after) h.tells a)
    (λ r. subst (λ (t : Option Files). IsMissing t words) h.tells (missing h.is_sure r))
    write stays
