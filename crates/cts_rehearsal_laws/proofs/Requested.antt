-- The texts of commands ask for them.
use Rattle.std.proofs.Common.{ℕ, List, [], ◌∷◌, ◌++◌, Some, codes, pos, refl, inl, inr}
use Rattle.cts_base.specs.Wholes.{whole_of}
use Rattle.cts_methods.specs.Asking.{in_text}
use Rattle.cts_api.specs.Replies.{IsRequested}
use Rattle.cts_cmd.specs.declared.request.Given.TheVariants.{Whole}
use Rattle.cts_cmd.specs.Texts.{IsCommandText, IsHead, IsLastParam, IsParamFirst, IsWith}
use Rattle.cts_rehearsal.specs.Generated.{digits_of}
use Rattle.cts_rehearsal_laws.specs.Orders.{OrdersRequest, order_request, order_text}
use Rattle.cts_rehearsal_laws.proofs.Cases.{at_most_11}

abbrev Requests : ℕ → Type 0
Requests v = IsRequested (in_text (order_text v)) (Some (order_request v))

-- what stands after the names of the command, and after `with`
abbrev after_names : ℕ → List ℕ
after_names v = codes " with DURATION " ++ digits_of v

abbrev after_with : ℕ → List ℕ
after_with v = codes " DURATION " ++ digits_of v

abbrev after_name : ℕ → List ℕ
after_name v = codes " " ++ digits_of v

head_0 : IsHead (order_text 0) (codes "INST") (codes "COLLECT") (after_names 0)
head_0 = record {
  gap = codes " COLLECT with DURATION " ++ digits_of 0;
  first = record { here = order_text 0; after = record { white = []; parts = refl; blank = refl; black = refl }; parts = refl; whole = refl; over = refl };
  second = record { here = codes "COLLECT with DURATION " ++ digits_of 0; after = record { white = 32 ∷ []; parts = refl; blank = refl; black = refl }; parts = refl; whole = refl; over = refl };
}

with_0 : IsWith (after_names 0) (after_with 0)
with_0 = (codes "with", record { here = codes "with DURATION " ++ digits_of 0; after = record { white = 32 ∷ []; parts = refl; blank = refl; black = refl }; parts = refl; whole = refl; over = refl }, refl)

param_0 : IsParamFirst (after_with 0) (codes "DURATION", Whole (pos 0)) []
unfolding whole_of
param_0 = record {
  gap = after_name 0;
  name = record { here = codes "DURATION " ++ digits_of 0; after = record { white = 32 ∷ []; parts = refl; blank = refl; black = refl }; parts = refl; whole = refl; over = refl };
  value = inr (digits_of 0, record { here = digits_of 0; after = record { white = 32 ∷ []; parts = refl; blank = refl; black = refl }; parts = refl; whole = refl; over = refl }, refl, refl);
}

last_0 : IsLastParam (after_with 0) (codes "DURATION", Whole (pos 0))
last_0 = ([], param_0, record { white = []; parts = refl; blank = refl; black = refl })

text_0 : IsCommandText (order_text 0) (order_request 0)
text_0 = record { rest = after_names 0; head = head_0; tail = (after_with 0, with_0, last_0) }

requests_0 : Requests 0
requests_0 = inl (order_request 0, text_0, refl)

head_1 : IsHead (order_text 1) (codes "INST") (codes "COLLECT") (after_names 1)
head_1 = record {
  gap = codes " COLLECT with DURATION " ++ digits_of 1;
  first = record { here = order_text 1; after = record { white = []; parts = refl; blank = refl; black = refl }; parts = refl; whole = refl; over = refl };
  second = record { here = codes "COLLECT with DURATION " ++ digits_of 1; after = record { white = 32 ∷ []; parts = refl; blank = refl; black = refl }; parts = refl; whole = refl; over = refl };
}

with_1 : IsWith (after_names 1) (after_with 1)
with_1 = (codes "with", record { here = codes "with DURATION " ++ digits_of 1; after = record { white = 32 ∷ []; parts = refl; blank = refl; black = refl }; parts = refl; whole = refl; over = refl }, refl)

param_1 : IsParamFirst (after_with 1) (codes "DURATION", Whole (pos 1)) []
unfolding whole_of
param_1 = record {
  gap = after_name 1;
  name = record { here = codes "DURATION " ++ digits_of 1; after = record { white = 32 ∷ []; parts = refl; blank = refl; black = refl }; parts = refl; whole = refl; over = refl };
  value = inr (digits_of 1, record { here = digits_of 1; after = record { white = 32 ∷ []; parts = refl; blank = refl; black = refl }; parts = refl; whole = refl; over = refl }, refl, refl);
}

last_1 : IsLastParam (after_with 1) (codes "DURATION", Whole (pos 1))
last_1 = ([], param_1, record { white = []; parts = refl; blank = refl; black = refl })

text_1 : IsCommandText (order_text 1) (order_request 1)
text_1 = record { rest = after_names 1; head = head_1; tail = (after_with 1, with_1, last_1) }

requests_1 : Requests 1
requests_1 = inl (order_request 1, text_1, refl)

head_2 : IsHead (order_text 2) (codes "INST") (codes "COLLECT") (after_names 2)
head_2 = record {
  gap = codes " COLLECT with DURATION " ++ digits_of 2;
  first = record { here = order_text 2; after = record { white = []; parts = refl; blank = refl; black = refl }; parts = refl; whole = refl; over = refl };
  second = record { here = codes "COLLECT with DURATION " ++ digits_of 2; after = record { white = 32 ∷ []; parts = refl; blank = refl; black = refl }; parts = refl; whole = refl; over = refl };
}

with_2 : IsWith (after_names 2) (after_with 2)
with_2 = (codes "with", record { here = codes "with DURATION " ++ digits_of 2; after = record { white = 32 ∷ []; parts = refl; blank = refl; black = refl }; parts = refl; whole = refl; over = refl }, refl)

param_2 : IsParamFirst (after_with 2) (codes "DURATION", Whole (pos 2)) []
unfolding whole_of
param_2 = record {
  gap = after_name 2;
  name = record { here = codes "DURATION " ++ digits_of 2; after = record { white = 32 ∷ []; parts = refl; blank = refl; black = refl }; parts = refl; whole = refl; over = refl };
  value = inr (digits_of 2, record { here = digits_of 2; after = record { white = 32 ∷ []; parts = refl; blank = refl; black = refl }; parts = refl; whole = refl; over = refl }, refl, refl);
}

last_2 : IsLastParam (after_with 2) (codes "DURATION", Whole (pos 2))
last_2 = ([], param_2, record { white = []; parts = refl; blank = refl; black = refl })

text_2 : IsCommandText (order_text 2) (order_request 2)
text_2 = record { rest = after_names 2; head = head_2; tail = (after_with 2, with_2, last_2) }

requests_2 : Requests 2
requests_2 = inl (order_request 2, text_2, refl)

head_3 : IsHead (order_text 3) (codes "INST") (codes "COLLECT") (after_names 3)
head_3 = record {
  gap = codes " COLLECT with DURATION " ++ digits_of 3;
  first = record { here = order_text 3; after = record { white = []; parts = refl; blank = refl; black = refl }; parts = refl; whole = refl; over = refl };
  second = record { here = codes "COLLECT with DURATION " ++ digits_of 3; after = record { white = 32 ∷ []; parts = refl; blank = refl; black = refl }; parts = refl; whole = refl; over = refl };
}

with_3 : IsWith (after_names 3) (after_with 3)
with_3 = (codes "with", record { here = codes "with DURATION " ++ digits_of 3; after = record { white = 32 ∷ []; parts = refl; blank = refl; black = refl }; parts = refl; whole = refl; over = refl }, refl)

param_3 : IsParamFirst (after_with 3) (codes "DURATION", Whole (pos 3)) []
unfolding whole_of
param_3 = record {
  gap = after_name 3;
  name = record { here = codes "DURATION " ++ digits_of 3; after = record { white = 32 ∷ []; parts = refl; blank = refl; black = refl }; parts = refl; whole = refl; over = refl };
  value = inr (digits_of 3, record { here = digits_of 3; after = record { white = 32 ∷ []; parts = refl; blank = refl; black = refl }; parts = refl; whole = refl; over = refl }, refl, refl);
}

last_3 : IsLastParam (after_with 3) (codes "DURATION", Whole (pos 3))
last_3 = ([], param_3, record { white = []; parts = refl; blank = refl; black = refl })

text_3 : IsCommandText (order_text 3) (order_request 3)
text_3 = record { rest = after_names 3; head = head_3; tail = (after_with 3, with_3, last_3) }

requests_3 : Requests 3
requests_3 = inl (order_request 3, text_3, refl)

head_4 : IsHead (order_text 4) (codes "INST") (codes "COLLECT") (after_names 4)
head_4 = record {
  gap = codes " COLLECT with DURATION " ++ digits_of 4;
  first = record { here = order_text 4; after = record { white = []; parts = refl; blank = refl; black = refl }; parts = refl; whole = refl; over = refl };
  second = record { here = codes "COLLECT with DURATION " ++ digits_of 4; after = record { white = 32 ∷ []; parts = refl; blank = refl; black = refl }; parts = refl; whole = refl; over = refl };
}

with_4 : IsWith (after_names 4) (after_with 4)
with_4 = (codes "with", record { here = codes "with DURATION " ++ digits_of 4; after = record { white = 32 ∷ []; parts = refl; blank = refl; black = refl }; parts = refl; whole = refl; over = refl }, refl)

param_4 : IsParamFirst (after_with 4) (codes "DURATION", Whole (pos 4)) []
unfolding whole_of
param_4 = record {
  gap = after_name 4;
  name = record { here = codes "DURATION " ++ digits_of 4; after = record { white = 32 ∷ []; parts = refl; blank = refl; black = refl }; parts = refl; whole = refl; over = refl };
  value = inr (digits_of 4, record { here = digits_of 4; after = record { white = 32 ∷ []; parts = refl; blank = refl; black = refl }; parts = refl; whole = refl; over = refl }, refl, refl);
}

last_4 : IsLastParam (after_with 4) (codes "DURATION", Whole (pos 4))
last_4 = ([], param_4, record { white = []; parts = refl; blank = refl; black = refl })

text_4 : IsCommandText (order_text 4) (order_request 4)
text_4 = record { rest = after_names 4; head = head_4; tail = (after_with 4, with_4, last_4) }

requests_4 : Requests 4
requests_4 = inl (order_request 4, text_4, refl)

head_5 : IsHead (order_text 5) (codes "INST") (codes "COLLECT") (after_names 5)
head_5 = record {
  gap = codes " COLLECT with DURATION " ++ digits_of 5;
  first = record { here = order_text 5; after = record { white = []; parts = refl; blank = refl; black = refl }; parts = refl; whole = refl; over = refl };
  second = record { here = codes "COLLECT with DURATION " ++ digits_of 5; after = record { white = 32 ∷ []; parts = refl; blank = refl; black = refl }; parts = refl; whole = refl; over = refl };
}

with_5 : IsWith (after_names 5) (after_with 5)
with_5 = (codes "with", record { here = codes "with DURATION " ++ digits_of 5; after = record { white = 32 ∷ []; parts = refl; blank = refl; black = refl }; parts = refl; whole = refl; over = refl }, refl)

param_5 : IsParamFirst (after_with 5) (codes "DURATION", Whole (pos 5)) []
unfolding whole_of
param_5 = record {
  gap = after_name 5;
  name = record { here = codes "DURATION " ++ digits_of 5; after = record { white = 32 ∷ []; parts = refl; blank = refl; black = refl }; parts = refl; whole = refl; over = refl };
  value = inr (digits_of 5, record { here = digits_of 5; after = record { white = 32 ∷ []; parts = refl; blank = refl; black = refl }; parts = refl; whole = refl; over = refl }, refl, refl);
}

last_5 : IsLastParam (after_with 5) (codes "DURATION", Whole (pos 5))
last_5 = ([], param_5, record { white = []; parts = refl; blank = refl; black = refl })

text_5 : IsCommandText (order_text 5) (order_request 5)
text_5 = record { rest = after_names 5; head = head_5; tail = (after_with 5, with_5, last_5) }

requests_5 : Requests 5
requests_5 = inl (order_request 5, text_5, refl)

head_6 : IsHead (order_text 6) (codes "INST") (codes "COLLECT") (after_names 6)
head_6 = record {
  gap = codes " COLLECT with DURATION " ++ digits_of 6;
  first = record { here = order_text 6; after = record { white = []; parts = refl; blank = refl; black = refl }; parts = refl; whole = refl; over = refl };
  second = record { here = codes "COLLECT with DURATION " ++ digits_of 6; after = record { white = 32 ∷ []; parts = refl; blank = refl; black = refl }; parts = refl; whole = refl; over = refl };
}

with_6 : IsWith (after_names 6) (after_with 6)
with_6 = (codes "with", record { here = codes "with DURATION " ++ digits_of 6; after = record { white = 32 ∷ []; parts = refl; blank = refl; black = refl }; parts = refl; whole = refl; over = refl }, refl)

param_6 : IsParamFirst (after_with 6) (codes "DURATION", Whole (pos 6)) []
unfolding whole_of
param_6 = record {
  gap = after_name 6;
  name = record { here = codes "DURATION " ++ digits_of 6; after = record { white = 32 ∷ []; parts = refl; blank = refl; black = refl }; parts = refl; whole = refl; over = refl };
  value = inr (digits_of 6, record { here = digits_of 6; after = record { white = 32 ∷ []; parts = refl; blank = refl; black = refl }; parts = refl; whole = refl; over = refl }, refl, refl);
}

last_6 : IsLastParam (after_with 6) (codes "DURATION", Whole (pos 6))
last_6 = ([], param_6, record { white = []; parts = refl; blank = refl; black = refl })

text_6 : IsCommandText (order_text 6) (order_request 6)
text_6 = record { rest = after_names 6; head = head_6; tail = (after_with 6, with_6, last_6) }

requests_6 : Requests 6
requests_6 = inl (order_request 6, text_6, refl)

head_7 : IsHead (order_text 7) (codes "INST") (codes "COLLECT") (after_names 7)
head_7 = record {
  gap = codes " COLLECT with DURATION " ++ digits_of 7;
  first = record { here = order_text 7; after = record { white = []; parts = refl; blank = refl; black = refl }; parts = refl; whole = refl; over = refl };
  second = record { here = codes "COLLECT with DURATION " ++ digits_of 7; after = record { white = 32 ∷ []; parts = refl; blank = refl; black = refl }; parts = refl; whole = refl; over = refl };
}

with_7 : IsWith (after_names 7) (after_with 7)
with_7 = (codes "with", record { here = codes "with DURATION " ++ digits_of 7; after = record { white = 32 ∷ []; parts = refl; blank = refl; black = refl }; parts = refl; whole = refl; over = refl }, refl)

param_7 : IsParamFirst (after_with 7) (codes "DURATION", Whole (pos 7)) []
unfolding whole_of
param_7 = record {
  gap = after_name 7;
  name = record { here = codes "DURATION " ++ digits_of 7; after = record { white = 32 ∷ []; parts = refl; blank = refl; black = refl }; parts = refl; whole = refl; over = refl };
  value = inr (digits_of 7, record { here = digits_of 7; after = record { white = 32 ∷ []; parts = refl; blank = refl; black = refl }; parts = refl; whole = refl; over = refl }, refl, refl);
}

last_7 : IsLastParam (after_with 7) (codes "DURATION", Whole (pos 7))
last_7 = ([], param_7, record { white = []; parts = refl; blank = refl; black = refl })

text_7 : IsCommandText (order_text 7) (order_request 7)
text_7 = record { rest = after_names 7; head = head_7; tail = (after_with 7, with_7, last_7) }

requests_7 : Requests 7
requests_7 = inl (order_request 7, text_7, refl)

head_8 : IsHead (order_text 8) (codes "INST") (codes "COLLECT") (after_names 8)
head_8 = record {
  gap = codes " COLLECT with DURATION " ++ digits_of 8;
  first = record { here = order_text 8; after = record { white = []; parts = refl; blank = refl; black = refl }; parts = refl; whole = refl; over = refl };
  second = record { here = codes "COLLECT with DURATION " ++ digits_of 8; after = record { white = 32 ∷ []; parts = refl; blank = refl; black = refl }; parts = refl; whole = refl; over = refl };
}

with_8 : IsWith (after_names 8) (after_with 8)
with_8 = (codes "with", record { here = codes "with DURATION " ++ digits_of 8; after = record { white = 32 ∷ []; parts = refl; blank = refl; black = refl }; parts = refl; whole = refl; over = refl }, refl)

param_8 : IsParamFirst (after_with 8) (codes "DURATION", Whole (pos 8)) []
unfolding whole_of
param_8 = record {
  gap = after_name 8;
  name = record { here = codes "DURATION " ++ digits_of 8; after = record { white = 32 ∷ []; parts = refl; blank = refl; black = refl }; parts = refl; whole = refl; over = refl };
  value = inr (digits_of 8, record { here = digits_of 8; after = record { white = 32 ∷ []; parts = refl; blank = refl; black = refl }; parts = refl; whole = refl; over = refl }, refl, refl);
}

last_8 : IsLastParam (after_with 8) (codes "DURATION", Whole (pos 8))
last_8 = ([], param_8, record { white = []; parts = refl; blank = refl; black = refl })

text_8 : IsCommandText (order_text 8) (order_request 8)
text_8 = record { rest = after_names 8; head = head_8; tail = (after_with 8, with_8, last_8) }

requests_8 : Requests 8
requests_8 = inl (order_request 8, text_8, refl)

head_9 : IsHead (order_text 9) (codes "INST") (codes "COLLECT") (after_names 9)
head_9 = record {
  gap = codes " COLLECT with DURATION " ++ digits_of 9;
  first = record { here = order_text 9; after = record { white = []; parts = refl; blank = refl; black = refl }; parts = refl; whole = refl; over = refl };
  second = record { here = codes "COLLECT with DURATION " ++ digits_of 9; after = record { white = 32 ∷ []; parts = refl; blank = refl; black = refl }; parts = refl; whole = refl; over = refl };
}

with_9 : IsWith (after_names 9) (after_with 9)
with_9 = (codes "with", record { here = codes "with DURATION " ++ digits_of 9; after = record { white = 32 ∷ []; parts = refl; blank = refl; black = refl }; parts = refl; whole = refl; over = refl }, refl)

param_9 : IsParamFirst (after_with 9) (codes "DURATION", Whole (pos 9)) []
unfolding whole_of
param_9 = record {
  gap = after_name 9;
  name = record { here = codes "DURATION " ++ digits_of 9; after = record { white = 32 ∷ []; parts = refl; blank = refl; black = refl }; parts = refl; whole = refl; over = refl };
  value = inr (digits_of 9, record { here = digits_of 9; after = record { white = 32 ∷ []; parts = refl; blank = refl; black = refl }; parts = refl; whole = refl; over = refl }, refl, refl);
}

last_9 : IsLastParam (after_with 9) (codes "DURATION", Whole (pos 9))
last_9 = ([], param_9, record { white = []; parts = refl; blank = refl; black = refl })

text_9 : IsCommandText (order_text 9) (order_request 9)
text_9 = record { rest = after_names 9; head = head_9; tail = (after_with 9, with_9, last_9) }

requests_9 : Requests 9
requests_9 = inl (order_request 9, text_9, refl)

head_10 : IsHead (order_text 10) (codes "INST") (codes "COLLECT") (after_names 10)
head_10 = record {
  gap = codes " COLLECT with DURATION " ++ digits_of 10;
  first = record { here = order_text 10; after = record { white = []; parts = refl; blank = refl; black = refl }; parts = refl; whole = refl; over = refl };
  second = record { here = codes "COLLECT with DURATION " ++ digits_of 10; after = record { white = 32 ∷ []; parts = refl; blank = refl; black = refl }; parts = refl; whole = refl; over = refl };
}

with_10 : IsWith (after_names 10) (after_with 10)
with_10 = (codes "with", record { here = codes "with DURATION " ++ digits_of 10; after = record { white = 32 ∷ []; parts = refl; blank = refl; black = refl }; parts = refl; whole = refl; over = refl }, refl)

param_10 : IsParamFirst (after_with 10) (codes "DURATION", Whole (pos 10)) []
unfolding whole_of
param_10 = record {
  gap = after_name 10;
  name = record { here = codes "DURATION " ++ digits_of 10; after = record { white = 32 ∷ []; parts = refl; blank = refl; black = refl }; parts = refl; whole = refl; over = refl };
  value = inr (digits_of 10, record { here = digits_of 10; after = record { white = 32 ∷ []; parts = refl; blank = refl; black = refl }; parts = refl; whole = refl; over = refl }, refl, refl);
}

last_10 : IsLastParam (after_with 10) (codes "DURATION", Whole (pos 10))
last_10 = ([], param_10, record { white = []; parts = refl; blank = refl; black = refl })

text_10 : IsCommandText (order_text 10) (order_request 10)
text_10 = record { rest = after_names 10; head = head_10; tail = (after_with 10, with_10, last_10) }

requests_10 : Requests 10
requests_10 = inl (order_request 10, text_10, refl)

head_11 : IsHead (order_text 11) (codes "INST") (codes "COLLECT") (after_names 11)
head_11 = record {
  gap = codes " COLLECT with DURATION " ++ digits_of 11;
  first = record { here = order_text 11; after = record { white = []; parts = refl; blank = refl; black = refl }; parts = refl; whole = refl; over = refl };
  second = record { here = codes "COLLECT with DURATION " ++ digits_of 11; after = record { white = 32 ∷ []; parts = refl; blank = refl; black = refl }; parts = refl; whole = refl; over = refl };
}

with_11 : IsWith (after_names 11) (after_with 11)
with_11 = (codes "with", record { here = codes "with DURATION " ++ digits_of 11; after = record { white = 32 ∷ []; parts = refl; blank = refl; black = refl }; parts = refl; whole = refl; over = refl }, refl)

param_11 : IsParamFirst (after_with 11) (codes "DURATION", Whole (pos 11)) []
unfolding whole_of
param_11 = record {
  gap = after_name 11;
  name = record { here = codes "DURATION " ++ digits_of 11; after = record { white = 32 ∷ []; parts = refl; blank = refl; black = refl }; parts = refl; whole = refl; over = refl };
  value = inr (digits_of 11, record { here = digits_of 11; after = record { white = 32 ∷ []; parts = refl; blank = refl; black = refl }; parts = refl; whole = refl; over = refl }, refl, refl);
}

last_11 : IsLastParam (after_with 11) (codes "DURATION", Whole (pos 11))
last_11 = ([], param_11, record { white = []; parts = refl; blank = refl; black = refl })

text_11 : IsCommandText (order_text 11) (order_request 11)
text_11 = record { rest = after_names 11; head = head_11; tail = (after_with 11, with_11, last_11) }

requests_11 : Requests 11
requests_11 = inl (order_request 11, text_11, refl)

pub orders_request : OrdersRequest
orders_request = at_most_11 Requests requests_0 requests_1 requests_2 requests_3 requests_4 requests_5 requests_6 requests_7 requests_8 requests_9 requests_10 requests_11
