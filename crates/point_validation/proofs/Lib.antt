mod ChildLaws
