-- Page 01, 'Sheets worked by hand', the fourth case: TTR 2,500, limited by stream 1; and page 02, Ask 8: the same ring by kinds 9 and 10, and one whose masters
-- have messages of their own. Assumes nothing.
use Prim.Native.Nat.{ℕ}
use mathlib.Core.Path.{◌≡◌, refl}
use mathlib.Core.List.{List, [], ◌∷◌}
use Rattle.common.specs.Sums.{upto, first_of}
use Rattle.sheet_record.specs.declared.Record.{Record}
use Rattle.sheet_messages.specs.Messages.{message_by}
use Rattle.sheet_rules.specs.Sheets.{longest_of, message_of}
use Rattle.profibus_rules.specs.Ring.{Ring, ring_of, stream_at, owns, count, messages, rotation, needed, fails}
use Rattle.profibus_rules.specs.Target.{bears, least, target, first_failing}

abbrev stream : ℕ → ℕ → ℕ → Record
stream y C D = record { kind = 4; a = y; b = C; c = D; d = 0; e = 0 }

abbrev streams : List Record
streams = stream 1 400 8400 ∷ stream 1 500 10000 ∷ stream 2 300 5000 ∷ []

-- n 3, L 300, M 500
abbrev three : Ring
unfolding ring_of
three = ring_of (record { head = record { kind = 3; a = 3; b = 300; c = 500; d = 0; e = 0 }; settings = []; streams = streams })

answer : (target three ≡ 2500) × (first_failing three 2501 ≡ 1)
unfolding ring_of stream_at owns count messages rotation needed fails upto first_of bears least target first_failing message_of
answer = (refl, refl)

-- none fails at 2,500, so none at L
passes : (first_failing three 2500 ≡ 4) × (first_failing three 300 ≡ 4)
unfolding ring_of stream_at owns count messages rotation needed fails upto first_of first_failing message_of
passes = (refl, refl)

-- ---- Kinds 9 and 10

-- the longest message of a master
abbrev message : ℕ → ℕ → Record
message y m = record { kind = 10; a = y; b = m; c = 0; d = 0; e = 0 }

-- n 3, L 300, and these messages
abbrev ring : List Record → Ring
unfolding ring_of
ring given = ring_of (record { head = record { kind = 9; a = 3; b = 300; c = 0; d = 0; e = 0 }; settings = given; streams = streams })

-- 500 for each, in any order
again : target (ring (message 2 500 ∷ message 1 500 ∷ message 3 500 ∷ [])) ≡ 2500
unfolding ring_of stream_at owns count messages upto bears least target message_of longest_of message_by
again = refl

-- 500, 300, and 100 of a master without streams: 900 in place of 1,500, so TTR is 600 more
own : (target (ring (message 1 500 ∷ message 2 300 ∷ message 3 100 ∷ [])) ≡ 3100) × (first_failing (ring (message 1 500 ∷ message 2 300 ∷ message 3 100 ∷ [])) 3101 ≡ 1)
unfolding ring_of stream_at owns count messages rotation needed fails upto first_of bears least target first_failing message_of longest_of message_by
own = (refl, refl)
