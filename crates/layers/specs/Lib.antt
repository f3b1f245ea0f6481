pub mod Renaming
pub mod Panels
pub mod PanelLaws
