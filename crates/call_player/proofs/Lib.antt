pub mod PlayCallLaws
