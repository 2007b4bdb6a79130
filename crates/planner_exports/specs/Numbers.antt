-- A planner's answer, and that of export, import and rewriting, as two numbers: a figure where the sheet is accepted, else 2^32 and the refusal's number; and a place. Assumes nothing.
use Rattle.std.specs.Prelude.{ℕ, ◌+◌}
use Rattle.std.specs.declared.result.Result.{Result}
use Rattle.std.specs.declared.result.Result.TheVariants.{Ok, Err}
use Rattle.common.specs.declared.Refusal.{Refusal}
use Rattle.pnet_plan.specs.declared.answer.Plan as pnet
use Rattle.profibus_plan.specs.declared.answer.Plan as ring
use Rattle.worldfip_plan.specs.declared.answer.Plan as fip

-- a figure of what is accepted
abbrev pub number_by : {A : Type 0} → (A → ℕ) → Result A Refusal → ℕ
number_by figure (Ok x) = figure x
number_by figure (Err r) = 4294967296 + r.no

-- the refusal's place, or the one that goes with what is accepted
abbrev pub place_by : {A : Type 0} → (A → ℕ) → Result A Refusal → ℕ
place_by place (Ok x) = place x
place_by place (Err r) = r.place

abbrev pub pnet_number : Result pnet.Plan Refusal → ℕ
pnet_number answer = number_by (λ plan. plan.masters) answer

abbrev pub profibus_number : Result ring.Plan Refusal → ℕ
profibus_number answer = number_by (λ plan. plan.rotation.0) answer

abbrev pub worldfip_number : Result fip.Plan Refusal → ℕ
worldfip_number answer = number_by (λ plan. plan.rows) answer

-- where the runs have a place for each stream: urgent requests first, and beside a capture
abbrev pub streams_number : Result pnet.Plan Refusal → ℕ
streams_number answer = number_by (λ plan. plan.streams) answer

-- of a text or a sheet that was written, its length
abbrev pub put_number : Result ℕ Refusal → ℕ
put_number answer = number_by (λ n. n) answer

-- ---- The place: the refusal's, else 0, or the stream that limits a ring; it is pnet_place too where urgent requests go first, and beside a capture

abbrev pub pnet_place : Result pnet.Plan Refusal → ℕ
pnet_place answer = place_by (λ plan. 0) answer

abbrev pub profibus_place : Result ring.Plan Refusal → ℕ
profibus_place answer = place_by (λ plan. plan.stream) answer

abbrev pub worldfip_place : Result fip.Plan Refusal → ℕ
worldfip_place answer = place_by (λ plan. 0) answer

abbrev pub put_place : Result ℕ Refusal → ℕ
put_place answer = place_by (λ n. 0) answer
