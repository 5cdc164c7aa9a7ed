-- The segments of a plan.
use Rattle.std.specs.Prelude.{List, [], ◌∷◌, ◌++◌, ℕ}
use Rattle.planner.specs.Intervals as durations
use Rattle.planner.specs.Intervals.{Intervals}
use Rattle.planner.specs.Third.{ThirdIntervals}
use Rattle.profile.specs.Profile.{Sign, none, level, segment, segments, seven_segments}
use Rattle.profile.specs.Profile as profile

-- The segments of a plan, and one without a value for the trailing rows.
abbrev pub with_trailing : List profile.Segment → (trailing : ℕ) → List profile.Segment
with_trailing xs trailing = xs ++ (segment trailing none ∷ [])

abbrev pub fourth_segments : Intervals → List profile.Segment
fourth_segments t = segments (durations.p t) (durations.q t) (durations.r t) (durations.s t)

abbrev pub third_segments : ThirdIntervals → List profile.Segment
third_segments t = seven_segments t.b t.c t.e
