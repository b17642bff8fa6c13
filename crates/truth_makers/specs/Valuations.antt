-- The valuations of variables by number: in column c of so many variables, the first variable has the truth value of the highest bit of c.
-- So columns are in the order of their valuations, false before true, the first variable counting most.
use Rattle.std.specs.Prelude.{◌≡◌, ℕ, zero, suc, ◌+◌, ◌-◌, ◌*◌, ◌^◌, ◌<◌, Bool, true, false, List, if◌then◌else◌}
use Rattle.word_columns.specs.Columns.{is_in_column}
use Rattle.decision_graph.specs.declared.vertex.Vertex.{Vertex}
use Rattle.decision_graph.specs.Meaning.{holds}

-- the valuation of a column
abbrev pub valuation_of : ℕ → ℕ → ℕ → Bool
valuation_of variables column v = is_in_column (variables - 1 - v) column

-- the function at a place holds in a column
abbrev pub holds_in : ℕ → List Vertex → ℕ → ℕ → Bool
holds_in variables vertices column place = holds vertices (valuation_of variables column) place

-- the number with these bits, the lowest first
unfoldable pub number_of : (ℕ → Bool) → ℕ → ℕ
number_of bits zero = 0
number_of bits (suc n) = (if bits 0 then 1 else 0) + 2 * number_of (λ v. bits (suc v)) n

-- the column of a valuation
abbrev pub column_of : (ℕ → Bool) → ℕ → ℕ
column_of vars variables = number_of (λ i. vars (variables - 1 - i)) variables

-- the function holds in this column, and in none before it
pub record IsFirstColumn (variables : ℕ) (vertices : List Vertex) (place column : ℕ) : Type 0 where
  pub inside : column < 2 ^ variables
  pub held : holds_in variables vertices column place ≡ true
  pub earlier : (other : ℕ) → other < column → holds_in variables vertices other place ≡ false
