-- The counters in their order, and the names under which they are printed.
use Rattle.std.specs.Prelude.{ℕ, List, [], ◌∷◌, codes}
use Rattle.fault_counters.specs.declared.kinds.Counter.{Counter}
use Rattle.fault_counters.specs.declared.kinds.Counter.TheVariants.{Frames, FramesRefused, Messages, OtherType, Delay, Short, UnknownEndpoint, WrongWay, CRefused, CMismatch, CLate, CEarly, CRange, CRepeat, COverlap, CFull, CAccepted, FStored, FWhole, FRepeat, FStray, FLong, URefused, ULate, UEarly, URepeat, UTaken, Cells, Missing, DelayShort, DelayUnknown, DelayRepeat, DelayResult}

-- the name of a counter
abbrev pub name_of : Counter → List ℕ
name_of Frames = codes "frames"
name_of FramesRefused = codes "frames_refused"
name_of Messages = codes "messages"
name_of OtherType = codes "other_type"
name_of Delay = codes "delay"
name_of Short = codes "short"
name_of UnknownEndpoint = codes "unknown_endpoint"
name_of WrongWay = codes "wrong_way"
name_of CRefused = codes "c_refused"
name_of CMismatch = codes "c_mismatch"
name_of CLate = codes "c_late"
name_of CEarly = codes "c_early"
name_of CRange = codes "c_range"
name_of CRepeat = codes "c_repeat"
name_of COverlap = codes "c_overlap"
name_of CFull = codes "c_full"
name_of CAccepted = codes "c_accepted"
name_of FStored = codes "f_stored"
name_of FWhole = codes "f_whole"
name_of FRepeat = codes "f_repeat"
name_of FStray = codes "f_stray"
name_of FLong = codes "f_long"
name_of URefused = codes "u_refused"
name_of ULate = codes "u_late"
name_of UEarly = codes "u_early"
name_of URepeat = codes "u_repeat"
name_of UTaken = codes "u_taken"
name_of Cells = codes "cells"
name_of Missing = codes "missing"
name_of DelayShort = codes "delay_short"
name_of DelayUnknown = codes "delay_unknown"
name_of DelayRepeat = codes "delay_repeat"
name_of DelayResult = codes "delay_result"

-- all counters, in the order in which they are printed
abbrev pub all_counters : List Counter
all_counters = Frames ∷ FramesRefused ∷ Messages ∷ OtherType ∷ Delay ∷ Short ∷ UnknownEndpoint ∷ WrongWay ∷ CRefused ∷ CMismatch ∷ CLate ∷ CEarly ∷ CRange ∷ CRepeat ∷ COverlap ∷ CFull ∷ CAccepted ∷ FStored ∷ FWhole ∷ FRepeat ∷ FStray ∷ FLong ∷ URefused ∷ ULate ∷ UEarly ∷ URepeat ∷ UTaken ∷ Cells ∷ Missing ∷ DelayShort ∷ DelayUnknown ∷ DelayRepeat ∷ DelayResult ∷ []

-- the place of a counter among all, from 0
abbrev pub index_of : Counter → ℕ
index_of Frames = 0
index_of FramesRefused = 1
index_of Messages = 2
index_of OtherType = 3
index_of Delay = 4
index_of Short = 5
index_of UnknownEndpoint = 6
index_of WrongWay = 7
index_of CRefused = 8
index_of CMismatch = 9
index_of CLate = 10
index_of CEarly = 11
index_of CRange = 12
index_of CRepeat = 13
index_of COverlap = 14
index_of CFull = 15
index_of CAccepted = 16
index_of FStored = 17
index_of FWhole = 18
index_of FRepeat = 19
index_of FStray = 20
index_of FLong = 21
index_of URefused = 22
index_of ULate = 23
index_of UEarly = 24
index_of URepeat = 25
index_of UTaken = 26
index_of Cells = 27
index_of Missing = 28
index_of DelayShort = 29
index_of DelayUnknown = 30
index_of DelayRepeat = 31
index_of DelayResult = 32
