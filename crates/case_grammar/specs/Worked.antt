-- Worked texts: cases with their matrices, and texts that are none.
use Rattle.std.specs.Prelude.{ℕ, List, [], ◌∷◌, ◌++◌, codes, ◌==◌}
use Rattle.std.specs.List.{slice_split}
use Rattle.record_reading.specs.Records.{Record}
use Rattle.case_text.specs.Matrices.{CaseMatrices}
use Rattle.case_grammar.specs.CaseTexts.{IsCaseText}

-- the cells of a row, here with a blank between each and the next
abbrev pub cells : List ℕ → Record
cells row = slice_split (λ byte. byte == 32) row

-- ---- as savecase writes
abbrev pub saved : List ℕ
saved =
    codes "function mpc = t_case\n%T_CASE\n\n%% MATPOWER Case Format : Version 2\nmpc.version = '2';\n\n"
    ++ codes "%%-----  Power Flow Data  -----%%\n%% system MVA base\nmpc.baseMVA = 100;\n\n"
    ++ codes "%% bus data\n%\tbus_i\ttype\tPd\tQd\nmpc.bus = [\n"
    ++ codes "\t1\t3\t0\t0\t0\t0\t1\t1\t0\t230\t1\t1.1\t0.9;\n"
    ++ codes "\t2\t1\t60\t0\t0\t0\t1\t1\t0\t230\t1\t1.1\t0.9;\n];\n\n"
    ++ codes "%% generator data\nmpc.gen = [\n\t1\t0\t0\tInf\t-Inf\t1\t100\t1\t1e2\t0;\n];\n\n"
    ++ codes "%% branch data\nmpc.branch = [\n\t1\t2\t0\t0.2\t0\t0\t0\t0\t0\t0\t1\t-360\t360;\n];\n\n"
    ++ codes "%% bus names\nmpc.bus_name = {\n\t'North';\n\t'King''s Cross';\n};\n"

abbrev pub saved_matrices : CaseMatrices
saved_matrices = record {
  bus = cells (codes "1 3 0 0 0 0 1 1 0 230 1 1.1 0.9") ∷ cells (codes "2 1 60 0 0 0 1 1 0 230 1 1.1 0.9") ∷ [];
  generators = cells (codes "1 0 0 Inf -Inf 1 100 1 1e2 0") ∷ [];
  branch = cells (codes "1 2 0 0.2 0 0 0 0 0 0 1 -360 360") ∷ [];
}

-- ---- commas, continuations inside and outside brackets, a comment behind a value, quotes, carriage returns, statements on one line
abbrev pub mixed : List ℕ
mixed =
    codes "% a comment first\r\n;,function ... here\n mpc ...\n=t mpc.version=\"2\" % behind a value\r\n"
    ++ codes "mpc.gen=[1,0 , 0 ...\n,9 -9 1 100,1 100 0,%\n\n;\r\n;],mpc.base.note = {'a % b',\"it's\" ; [1 'x'] {{}}}... \n, mpc.baseMVA ...\n = ... \n +1.e2 ...\n"
    ++ codes "\n mpc.bus = [],mpc.branch=[ ; % empty\n\n] % the end"

abbrev pub mixed_matrices : CaseMatrices
mixed_matrices = record { bus = []; generators = cells (codes "1 0 0 9 -9 1 100 1 100 0") ∷ []; branch = [] }

-- a byte order mark stands before the text
abbrev pub marked : List ℕ
marked = 239 ∷ 187 ∷ 191 ∷ mixed

-- ---- no cases
-- a case with this statement at its end
abbrev pub ending_with : List ℕ → List ℕ
ending_with statement = codes "function mpc = t\nmpc.version = '2'\nmpc.baseMVA = 100\nmpc.bus = []\nmpc.gen = []\nmpc.branch = []\n" ++ statement

abbrev pub IsNoCase : List ℕ → Type 0
IsNoCase text = (matrices : CaseMatrices) → IsCaseText text matrices → ⊥

pub record WorkedTexts : Type 0 where
  pub saved_case : IsCaseText saved saved_matrices
  pub mixed_case : IsCaseText mixed mixed_matrices
  pub marked_case : IsCaseText marked mixed_matrices
  pub any_field : IsCaseText (ending_with (codes "mpc.x = 5; mpc.x = 'again' ...")) (record { bus = []; generators = []; branch = [] })
  -- right after a number `...` belongs to that
  pub number_continued : IsNoCase (ending_with (codes "mpc.x = 5...\n;"))
  pub word_continued : IsNoCase (ending_with (codes "mpc.x...\n= 5"))
  -- two commas, and a comma first
  pub two_commas : IsNoCase (ending_with (codes "mpc.x = [1,,2]"))
  pub comma_first : IsNoCase (ending_with (codes "mpc.x = [,1]"))
  -- elements that nothing parts
  pub string_unparted : IsNoCase (ending_with (codes "mpc.x = {1'a'}"))
  pub brackets_unparted : IsNoCase (ending_with (codes "mpc.x = {[1][2]}"))
  -- a matrix holds neither matrices nor expressions
  pub matrix_inside : IsNoCase (ending_with (codes "mpc.x = [[1]]"))
  pub expression : IsNoCase (ending_with (codes "mpc.x = 1 + 1"))
  pub part_set : IsNoCase (ending_with (codes "mpc.bus(1, 3) = 5"))
  -- nine brackets
  pub too_deep : IsNoCase (ending_with (codes "mpc.x = {{{{{{{{{}}}}}}}}}"))
  -- a string that goes over the end of its line
  pub string_open : IsNoCase (ending_with (codes "mpc.x = 'a\n'"))
  pub block_comment : IsNoCase (ending_with (codes "  %{ \n"))
  -- a field of the five that is set again
  pub set_twice : IsNoCase (ending_with (codes "mpc.bus = []"))
  -- no field is missing
  pub field_missing : IsNoCase (codes "function mpc = t\nmpc.version = '2'\nmpc.baseMVA = 100\nmpc.bus = []\nmpc.gen = []")
  -- no end behind a value
  pub no_end : IsNoCase (ending_with (codes "mpc.x = 5 mpc.y = 6"))
