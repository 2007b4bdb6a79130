-- Page 01, 'Sheet records', and page 02, Asks 8 and 10: what a sheet says, what it sets for the records behind it, and the limits on them. What stands before a
-- record is a sheet too, one that may yet grow. Assumes nothing.
use Rattle.std.specs.Prelude.{ℕ, zero, suc, ◌+◌, max, List, [], ◌∷◌, Bool, true, false, cond, not, ◌&&◌, ◌||◌, length, get_or, ltb, leb, eqb}
use Rattle.common.specs.Sums.{when}
use Rattle.sheet_record.specs.declared.Given.{Given}
use Rattle.sheet_record.specs.declared.Record.{Record}
use Rattle.sheet_record.specs.Kinds.{nothing, worldfip, bus_of, part_of, is_setting, is_stream, Part, Times}
use Rattle.sheet_record.specs.Kinds.Part.{no_part, first, setting, stream}
use Rattle.sheet_record.specs.Kinds.Times.{once, often}
use Rattle.sheet_messages.specs.Messages.{message_by}

-- its first record, its settings, and its streams (or variables) in sheet order
pub record Sheet : Type 0 where
  pub head : Record
  pub settings : List Record
  pub streams : List Record

-- ---- What some records say

-- the first, and `nothing` where there is none
unfoldable pub head_of : List Record → Record
head_of rs = get_or rs 0 nothing

-- those of such a kind
unfoldable pub having : (ℕ → Bool) → List Record → List Record
having such [] = []
having such (r ∷ rs) = cond (such r.kind) (r ∷ having such rs) (having such rs)

unfoldable pub sheet_of : List Record → Sheet
unfolding head_of having is_setting is_stream
sheet_of rs = record { head = head_of rs; settings = having is_setting rs; streams = having is_stream rs }

-- how many of these records have x in their first field: the master of a stream or of a longest message, the identifier of a variable
unfoldable pub count_of : ℕ → List Record → ℕ
count_of x [] = 0
count_of x (r ∷ rs) = when (eqb r.a x) 1 + count_of x rs

-- the greatest second field of those of these records that have x in their first, and 0 if there are none: the longest C of a master's streams, or its
-- longest message
unfoldable pub longest_of : ℕ → List Record → ℕ
longest_of x [] = 0
longest_of x (r ∷ rs) = max (when (eqb r.a x) r.b) (longest_of x rs)

-- ---- What a sheet sets for a record behind it

-- the bus that it is for
abbrev pub bus_in : Sheet → ℕ
bus_in S = bus_of S.head.kind

-- N or n, of P-NET and PROFIBUS
abbrev pub masters_of : Sheet → ℕ
masters_of S = S.head.a

-- M of master y, of PROFIBUS: that of the ring, which kind 3 has for all masters; behind kind 9 (page 02, Ask 8) that of y's own record, and
-- 100,000 where it has none
unfoldable pub message_of : Sheet → ℕ → ℕ
unfolding longest_of message_by
message_of S y = cond (eqb S.head.kind 9) (message_by (longest_of y S.settings)) S.head.c

-- the edition of the P-NET rule (page 02, Ask 10): that of its setting, and 1 where it has none
abbrev pub edition_by : List Record → ℕ
edition_by [] = 1
edition_by (r ∷ rs) = r.a

abbrev pub edition_of : Sheet → ℕ
edition_of S = edition_by S.settings

-- the limits of a record of master y
abbrev pub given : Sheet → ℕ → Given
given S y = record { masters = masters_of S; message = message_of S y }

-- ---- Positions

-- how many of these records are of kind k
unfoldable pub of_kind : ℕ → List Record → ℕ
of_kind k [] = 0
of_kind k (r ∷ rs) = when (eqb r.kind k) 1 + of_kind k rs

-- a setting of kind k may stand behind these
abbrev pub again : Times → ℕ → List Record → Bool
again once k settings = eqb (of_kind k settings) 0
again often k settings = true

-- kind k may stand behind S for its part: first where there is nothing, a setting behind its first record and before the streams, a stream
-- behind a first record of its bus
abbrev pub placed : Sheet → ℕ → Part → Bool
placed S k no_part = false
placed S k first = eqb S.head.kind 0
placed S k (setting h t) = eqb S.head.kind h && (eqb (length S.streams) 0 && again t k S.settings)
placed S k stream = eqb (bus_in S) (bus_of k)

unfoldable pub fits : Sheet → ℕ → Bool
unfolding part_of bus_of of_kind
fits S k = placed S k (part_of k)

-- ---- Longest messages, behind kind 9

-- one of masters 1..n has none among these
unfoldable pub lacks_of : ℕ → List Record → Bool
unfolding count_of
lacks_of zero settings = false
lacks_of (suc n) settings = lacks_of n settings || eqb (count_of (suc n) settings) 0

-- a master's longest message is missing
unfoldable pub lacking : Sheet → Bool
unfolding lacks_of
lacking S = eqb S.head.kind 9 && lacks_of (masters_of S) S.settings

-- r is a longest message of a master that has one before
unfoldable pub repeated : Sheet → Record → Bool
unfolding count_of
repeated S r = eqb r.kind 10 && ltb 0 (count_of r.a S.settings)

-- ---- Limits

-- streams in all, by the bus: 800, and 64 variables
unfoldable pub most_in_all : ℕ → ℕ
most_in_all bus = cond (eqb bus worldfip) 64 800

-- a variable has no master
unfoldable pub has_masters : ℕ → Bool
has_masters bus = not (eqb bus worldfip)

-- behind these streams, r is one more than a limit allows: in all, or of its master
unfoldable pub over_limit : List Record → Record → Bool
unfolding most_in_all has_masters count_of bus_of
over_limit before r = leb (most_in_all (bus_of r.kind)) (length before) || (has_masters (bus_of r.kind) && leb 80 (count_of r.a before))

-- a variable whose identifier was met before
unfoldable pub met_before : List Record → Record → Bool
unfolding count_of bus_of
met_before before r = eqb (bus_of r.kind) worldfip && ltb 0 (count_of r.a before)
