-- What is written of a text, call by call.
use Rattle.std.proofs.Common.{◌≡◌, ℕ, ◌+◌, ◌-◌, List, [], length, take, drop, sym, refl, arith, Option, Some, None, append_assoc, append-nil}
use Rattle.std.proofs.Math.Seq.{take-add}
use Rattle.std.proofs.lemmas.Grind.{common_steps}
use Rattle.sa_base.specs.declared.status.Status.TheVariants.{ReadFault, OutOfMemory}
use Rattle.sa_outside.specs.Files.{Files}
use Rattle.sa_outside.specs.Writing.{Appends}
use Rattle.sa_top.specs.Answer.{name_of, content_of}
use Rattle.sa_top.specs.Top.{Answers, IsTold}

-- the rest of a text, as it is passed
pub rest-is : (s : List ℕ) (at : ℕ) → take (length s - at) (drop at s) ≡ drop at s
rest-is s at = grind (arith, common_steps)

pub appends-more : (a b c : Option (List ℕ)) (text : List ℕ) (at n : ℕ) → Appends a b (take at text) → Appends b c (take n (drop at text)) → Appends a c (take (at + n) text)
appends-more a b None text at n p q = tt
appends-more a None (Some z) text at n p q = absurd q
appends-more None (Some y) (Some z) text at n p q = absurd p
appends-more (Some x) (Some y) (Some z) text at n p q = rw (q, p, append_assoc, ← take-add at n text) refl

appends-nothing : (a : Option (List ℕ)) → Appends a a []
appends-nothing None = tt
appends-nothing (Some x) = sym (append-nil x)

-- what is known of the content of the named file, whatever was read
known : (files : Option Files) (name : Option (List ℕ)) → (content : Option (List ℕ)) × IsTold files name content
known None name = (None, tt)
known (Some files) name = (content_of files name, refl)

pub unread-answers : (files : Option Files) (words : List (List ℕ)) (a : Option (List ℕ)) → Answers files words ReadFault a a
unread-answers files words a = let k = known files (name_of words) in record { content = k.0; told = k.1; wrote = appends-nothing a }

pub starved-answers : (files : Option Files) (words : List (List ℕ)) (a : Option (List ℕ)) → Answers files words OutOfMemory a a
starved-answers files words a = let k = known files (name_of words) in record { content = k.0; told = k.1; wrote = appends-nothing a }
