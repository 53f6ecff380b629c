-- The generated source, line by line.
use Rattle.std.specs.Prelude.{ℕ, zero, suc, ◌+◌, List, [], ◌++◌, codes}
use Rattle.std.specs.Fmt.{decimal}

abbrev pub opening : List ℕ
opening = codes "volatile unsigned short u;\n"

-- a counter
unfoldable pub declaration : ℕ → List ℕ
declaration i = codes "int a" ++ (decimal i ++ codes ";\n")

abbrev pub beginning : List ℕ
beginning = codes "void main(void) {\n  while (1) {\n"

-- the counter that is picked, of n
unfoldable pub modulus : ℕ → List ℕ
modulus n = codes "    int k = u % " ++ (decimal n ++ codes ";\n")

abbrev pub choice : List ℕ
choice = codes "    switch (k) {\n"

-- the picked counter adds 1
unfoldable pub case_start : ℕ → List ℕ
case_start i = codes "      case " ++ (decimal i ++ (codes ": a" ++ (decimal i ++ (codes " = a" ++ (decimal i ++ codes " + 1;")))))

-- and begins again above 100
unfoldable pub case_end : ℕ → List ℕ
case_end i = codes " if (a" ++ (decimal i ++ (codes " > 100) a" ++ (decimal i ++ codes " = 0; break;\n")))

unfoldable pub case_line : ℕ → List ℕ
case_line i = case_start i ++ case_end i

abbrev pub waiting : List ℕ
waiting = codes "    }\n    __ASTREE_wait_for_clock(());\n"

abbrev pub ending : List ℕ
ending = codes "  }\n}\n"

-- n lines, of the numbers from i on
unfoldable pub lines_from : (ℕ → List ℕ) → ℕ → ℕ → List ℕ
lines_from line zero i = []
lines_from line (suc n) i = line i ++ lines_from line n (i + 1)

-- the whole text
unfoldable pub source_of : ℕ → List ℕ
source_of n = opening ++ (lines_from declaration n 0 ++ (beginning ++ (modulus n ++ (choice ++ (lines_from case_line n 0 ++ (waiting ++ ending))))))
