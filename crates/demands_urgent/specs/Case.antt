-- A sheet that is accepted where urgent requests go first, and refused where the oldest do: one master with three streams of C = 203, the first with T = D = 500, the other
-- two with T = D = 100,000. Assumes nothing.
use Rattle.std.specs.Prelude.{ℕ, List, [], ◌∷◌, ◌++◌}
use Rattle.sheet_record.specs.declared.Record.{Record}
use Rattle.sheet_rules.specs.Sheets.{Sheet}

-- kind 1: N = 1; kind 2, three times: master 1, C, T and D
abbrev pub bytes : List ℕ
bytes =
    (1 ∷ 1 ∷ [])
    ++ ((2 ∷ 1 ∷ 0 ∷ 203 ∷ 0 ∷ 0 ∷ 1 ∷ 244 ∷ 0 ∷ 0 ∷ 1 ∷ 244 ∷ [])
    ++ ((2 ∷ 1 ∷ 0 ∷ 203 ∷ 0 ∷ 1 ∷ 134 ∷ 160 ∷ 0 ∷ 1 ∷ 134 ∷ 160 ∷ []) ++ (2 ∷ 1 ∷ 0 ∷ 203 ∷ 0 ∷ 1 ∷ 134 ∷ 160 ∷ 0 ∷ 1 ∷ 134 ∷ 160 ∷ [])))

abbrev stream : ℕ → Record
stream T = record { kind = 2; a = 1; b = 203; c = T; d = T; e = 0 }

-- what they say
abbrev pub sheet : Sheet
sheet = record {
  head = record { kind = 1; a = 1; b = 0; c = 0; d = 0; e = 0 };
  settings = [];
  streams = stream 500 ∷ stream 100000 ∷ stream 100000 ∷ [];
}

-- a lent run with a place for each stream
abbrev pub lent : List ℕ
lent = 0 ∷ 0 ∷ 0 ∷ []
